use Rattle.std.proofs.Common.{refl}
use Rattle.std.specs.Prelude.{nat_eq}
use Rattle.match_rules.specs.Ways.{Context as AnyContext}
use Rattle.match_rules.specs.Visits.{visits}
use Rattle.pattern_match.specs.Steps.{shape_of}
use Rattle.pattern_match.proofs.VainLaws.{by-place}
use Rattle.pattern_match.proofs.vain.vain_at.Goals as goal

pub returns-in-Character : goal.returns-in-Character
returns-in-Character g c =
    let text = g.T.Lines.lines c.args.lines.now in
    by-place c.args.context.now (λ (x : AnyContext). visits x (shape_of c.args.step.now)) c.in-Character.c (nat_eq c.args.at.col 0) c.vain_by.result c.vain_by.ensures text c.args.at c.in-Character.field-1 c.requires refl
    (rw c.in-Character.is at c.standing_at.ensures)
