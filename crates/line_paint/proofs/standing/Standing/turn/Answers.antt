use Rattle.line_paint.proofs.Common.{closed, standing_of, next_start, next_of}
use Rattle.line_paint.proofs.ComesLaws.{comes_then}
use Rattle.line_paint.proofs.TurnLaws.{at_after}
use Rattle.line_paint.proofs.standing.Standing.turn.Goals as goal

pub pick-requires-clause-at : goal.pick-requires-clause-at
pick-requires-clause-at g c =
    let h = g.S.Site.here c.args.site.now in
    at_after h c.args.c c.args.self.now c.close.new.self
    (closed h c.args.c (standing_of c.args.self.now)) (standing_of c.close.new.self)
    c.requires.at c.in_ok-close.ensures.stands c.in_ok-close.ensures.leads

pub returns-in-Ok-clause-leads : goal.returns-in-Ok-clause-leads
returns-in-Ok-clause-leads g c =
    let h = g.S.Site.here c.args.site.now in
    comes_then (next_of (standing_of c.take_up.new.self)) c.take_up.result _ _ _
    (closed h c.args.c (standing_of c.args.self.now)) (standing_of c.close.new.self)
    (next_start h c.args.c) c.in_ok-close.ensures.leads c.take_up.ensures.leads
