use Rattle.std.proofs.Common.{List, refl, ap, subst, ◌∙◌}
use Rattle.std.specs.Prelude.{Some, None}
use Rattle.match_rules.specs.Marks.{Mark}
use Rattle.match_rules.specs.Ways.{Context as AnyContext, way_from}
use Rattle.pattern_match.specs.Contexts.{context_in}
use Rattle.pattern_match.specs.Glance.{ComesTo}
use Rattle.pattern_match.specs.Ways.{way_noted}
use Rattle.pattern_match.specs.declared.answer.Attempt.TheVariants.{Absent}
use Rattle.pattern_match.proofs.SeenWays.{told_absent, told_found, told_ok}
use Rattle.pattern_match.proofs.programs.Program.attempt.Goals as goal

pub returns-in-InVain : goal.returns-in-InVain
returns-in-InVain g c =
    let text = g.T.Lines.lines c.args.lines.now in
    let x : AnyContext = context_in text c.args.context.now in
    let w = way_from c.args.start in
    let new = c.first_way.new.sight.spent in
    let seen = subst (λ (marks : List Mark). ComesTo marks (record { cost = 0; budget = c.args.budget; looked = None }) new None) (c.requires.stands.same x w)
    (rw c.in-InVain.is at c.first_way.ensures.seen w refl) in
    ap Absent c.looked_or_start-looked.ensures ∙ told_absent c.args.budget text c.args.start _ new.cost new.looked c.first_way.ensures.within seen

pub returns-in-Reached : goal.returns-in-Reached
returns-in-Reached g c =
    let text = g.T.Lines.lines c.args.lines.now in
    let x : AnyContext = context_in text c.args.context.now in
    let w = way_from c.args.start in
    let sight = c.first_way.new.sight in
    let new = sight.spent in
    let v = way_noted w sight.notes.items sight.at in
    let seen = subst (λ (marks : List Mark). ComesTo marks (record { cost = 0; budget = c.args.budget; looked = None }) new (Some v)) (c.requires.stands.same x w)
    (rw c.in-Reached.is at c.first_way.ensures.seen w refl) in
    told_ok c.seen.result _ _ c.seen.ensures
    (told_found c.args.budget text c.args.start _ new.cost new.looked v c.first_way.ensures.within seen)
