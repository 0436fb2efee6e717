use Rattle.std.proofs.Common.{[], ◌∷◌, sym}
use Rattle.match_rules.specs.Ways.{Context as AnyContext}
use Rattle.match_rules.specs.Marks.{Reach, followed}
use Rattle.match_rules.specs.Visits.{visits}
use Rattle.match_rules.proofs.MarkLaws.{followed-reach}
use Rattle.pattern_match.specs.Contexts.{context_in}
use Rattle.pattern_match.specs.Steps.{shape_of}
use Rattle.pattern_match.specs.declared.sight.Sight.{Sight}
use Rattle.pattern_match.proofs.GlanceLaws.{seen_as, seen_first}
use Rattle.pattern_match.proofs.glance.first_way.Goals as goal

pub returns-clause-seen : goal.returns-clause-seen
returns-clause-seen g c = λ w e.
    let x : AnyContext = context_in (g.T.Lines.lines c.args.lines.now) c.args.context.now in
    let marks = visits x (shape_of c.args.step.now) w in
    let sight : Sight = record { at = c.args.start; left = 1000; spent = c.nothing-sight.result; notes = c.clear.new.self } in
    seen_first w marks sight c.look_at.new.sight c.look_at.result _ c.clear.ensures.items c.nothing-sight.ensures
    (seen_as w marks (followed marks (λ v. Reach v ∷ [])) sight c.look_at.new.sight c.look_at.result (sym (followed-reach marks)) (c.look_at.ensures.seen w e))
