use Rattle.std.proofs.Common.{◌≡◌, ◌+◌, ◌∙◌, suc, ap, arith, slice_get, Some}
use Rattle.text_buffer.proofs.ByteLaws.{copied_further}
use Rattle.text_buffer.proofs.writing.copy_lines.Goals as goal

pub loop-i-preserved : goal.loop-i-preserved
loop-i-preserved c =
    let next : c.loop-i.i + 1 ≡ suc c.loop-i.i = omega arith in
    let is : Some c.in_ok-from_slice.field-0 ≡ slice_get c.args.lines.now.0 c.loop-i.i = ap Some (c.in_ok-from_slice.ensures ∙ c.as_slice.ensures) ∙ c.get.ensures in
    copied_further c.args.lines.now.0 c.loop-i.i (c.loop-i.i + 1) c.in_ok-from_slice.field-0 c.loop-i.copy c.push.new.self
    next is c.loop-i.invariant c.in_ok-push.ensures.ok
