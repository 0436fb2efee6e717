use Rattle.line_paint.proofs.Common.{subst, Some, looked_first, picked, standing_of}
use Rattle.item_pick.specs.declared.starting.Picked.{Picked}
use Rattle.item_pick.specs.Picks.{IsPicked}
use Rattle.line_paint.proofs.TurnLaws.{next_starts}
use Rattle.line_paint.proofs.standing.Standing.take_up.Goals as goal

pub start-requires-clause-starting : goal.start-requires-clause-starting
start-requires-clause-starting g c =
    let h = g.S.Site.here c.args.site.now in
    let P : Picked → Type 0 = λ a. IsPicked h.rules.items a
    (looked_first (Some (c.args.self.now).looked)
    (picked h c.args.c (standing_of c.args.self.now))) in
    let p = subst P c.in-Start.is c.requires.found in
    (p.0, p.1)

pub returns-in_ok-start-in-Start-clause-leads : goal.returns-in_ok-start-in-Start-clause-leads
returns-in_ok-start-in-Start-clause-leads g c =
    let h = g.S.Site.here c.args.site.now in
    let s = standing_of c.args.self.now in
    let P : Picked → Type 0 = λ a. IsPicked h.rules.items a
    (looked_first (Some (c.args.self.now).looked) (picked h c.args.c s)) in
    let p = subst P c.in-Start.is c.requires.found in
    next_starts h c.args.c (c.args.self.now).looked c.in-Start.looked s (c.start.new.self).looked
    p.0 (standing_of c.start.new.self) p.2 (c.in_ok-start-in-Start.ensures.leads p.0 p.1)
