use Rattle.line_paint.proofs.Common.{◌≡◌, Some, looked_first, closed, closed_in, standing_of, Stands}
use Rattle.line_paint.proofs.standing.Standing.close.Given as goal

-- what is left is closing in so many steps
abbrev pub invariant-steps : goal.invariant-steps
invariant-steps g l =
    let h = g.S.Site.here l.site in
    record {
      whole : looked_first (Some (l.fn.self).looked) (closed h l.c (standing_of l.fn.self))
          ≡ looked_first (Some (l.self).looked) (closed_in l.left h l.c (standing_of l.self));
      stands : Stands h l.c l.self;
      memory : g.S.Site.stands l.site l.memory;
    }

abbrev pub decreases-steps : goal.decreases-steps
decreases-steps g l = l.left
