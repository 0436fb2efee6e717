use Rattle.std.proofs.Common.{◌∙◌, ◌++◌, ◌∷◌, [], ap, arith}
use Rattle.edit_session.proofs.LineLaws.{copied_further}
use Rattle.edit_session.proofs.changes.push_lines.Goals as goal

pub loop-number-preserved : goal.loop-number-preserved
loop-number-preserved g c = (
  copied_further (g.T.Lines.lines c.args.text.now) c.args.lines.now c.loop-number.lines c.push.new.self c.args.a c.loop-number.number c.line.result.now
      c.loop-number.invariant.1 c.line.ensures c.loop-number.invariant.0
      (c.in_ok-push.ensures.ok ∙ ap (λ x. c.loop-number.lines ++ x ∷ []) c.in_ok-from_slice.ensures),
  omega arith,
)
