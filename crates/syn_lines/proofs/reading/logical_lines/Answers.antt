use Rattle.std.proofs.Common.{◌≡◌, ◌+◌, rules, arith, true}
use Rattle.std.specs.Prelude.{slice_range}
use Rattle.std.specs.Str.{chars, is_utf8}
use Rattle.text_buffer.specs.Reading.{lines_after}
use Rattle.syn_lines.specs.LogicalLines.{logical_lines_of}
use Rattle.syn_lines.specs.Joining.{with_line}
use Rattle.syn_lines.proofs.JoinLaws.{read_further}
use Rattle.syn_lines.proofs.reading.logical_lines.Goals as goal

pub loop-at-preserved : goal.loop-at-preserved
loop-at-preserved c =
    let slice = slice_range c.args.bytes.now c.loop-at.at c.line_end-end-in-loop-at.result in
    let good : (is_utf8 slice ≡ true) × (c.in-Some-2.line ≡ chars slice) = search rules in
    let made : c.in_ok-joined.joined ≡ with_line c.loop-at.joined c.loop-at.number c.in-Some-2.line = c.in_ok-joined.ensures in
    record {
      so_far = read_further c.args.bytes.now c.loop-at.at c.loop-at.joined c.in_ok-joined.joined c.loop-at.number slice c.in-Some-2.line
          (lines_after c.args.bytes.now (c.line_end-end-in-loop-at.result + 1)) (logical_lines_of c.args.bytes.now)
          c.loop-at-test.true c.loop-at.invariant.so_far c.line_end-end-in-loop-at.ensures.lines good made;
      few = omega arith;
    }
