use Rattle.std.proofs.Common.{◌≡◌, ◌+◌, ◌∙◌, suc, ap, arith, slice_get, Some}
use Rattle.text_buffer.proofs.ByteLaws.{written_further}
use Rattle.text_buffer.proofs.writing.write_lines.Goals as goal

pub loop-i-preserved : goal.loop-i-preserved
loop-i-preserved c =
    let next : c.loop-i.i + 1 ≡ suc c.loop-i.i = omega arith in
    let is : Some c.as_slice.result.now ≡ slice_get c.args.lines.now.0 c.loop-i.i = ap Some c.as_slice.ensures ∙ c.get.ensures in
    written_further c.args.lines.now.0 c.loop-i.i (c.loop-i.i + 1) c.as_slice.result.now c.loop-i.bytes.items c.write_line.new.bytes.items
    next is c.loop-i.invariant c.in_ok-write_line.ensures
