use Rattle.std.proofs.Common.{◌∙◌}
use Rattle.std.proofs.lemmas.Result.{err_from_is_err_and}
use Rattle.text_buffer.proofs.LineLaws.{text_before}
use Rattle.text_buffer.proofs.reading.read_lines.Goals as goal

pub loop-at-preserved : goal.loop-at-preserved
loop-at-preserved c =
    let so_far = text_before c.args.bytes.now c.loop-at.lines.0 c.loop-at.at _ c.loop-at-test.true c.loop-at.invariant.so_far in
    record {
      so_far = so_far ∙ c.in_ok-at-2.ensures.read;
      some = c.in_ok-at-2.ensures.some;
      few = c.in_ok-at-2.ensures.few;
    }

pub returns-in_err-at-2-clause-fault : goal.returns-in_err-at-2-clause-fault
returns-in_err-at-2-clause-fault c =
    let so_far = text_before c.args.bytes.now c.loop-at.lines.0 c.loop-at.at _ c.loop-at-test.true c.loop-at.invariant.so_far in
    let p = err_from_is_err_and c.from_residual-in_err-at-2.result c.from_residual-in_err-at-2.ensures.1 in
    rw (p.1, p.2) (λ other. so_far ∙ c.in_err-at-2.ensures.fault other)
