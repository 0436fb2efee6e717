use Rattle.line_paint.proofs.Common.{◌≡◌, length, suc, Some, looked_first, turns, standing_of, IsAt}
use Rattle.line_paint.proofs.standing.Standing.turns.Given as goal

-- what is left are so many turns
abbrev pub invariant-turns : goal.invariant-turns
invariant-turns g l =
    let h = g.S.Site.here l.site in
    record {
      whole : looked_first (Some (l.fn.self).looked)
          (turns (suc (length h.rules.items)) h l.c (standing_of l.fn.self)) ≡ looked_first
          (Some (l.self).looked) (turns l.left h l.c (standing_of l.self));
      at : IsAt h l.c l.self;
      memory : g.S.Site.stands l.site l.memory;
    }

abbrev pub decreases-turns : goal.decreases-turns
decreases-turns g l = l.left
