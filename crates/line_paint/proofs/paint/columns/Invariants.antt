use Rattle.line_paint.proofs.Common.{◌≡◌, ◌-◌, drop, Some, looked_first, this_line, painted_from, standing_of, IsAt, painted_rest}
use Rattle.line_paint.proofs.paint.columns.Given as goal

-- what is left is the line from `c` on
abbrev pub invariant-columns : goal.invariant-columns
invariant-columns g l =
    let h = g.S.Site.here l.site in
    record {
      whole : looked_first (Some (l.fn.standing).looked)
          (painted_from h 0 (this_line h) (standing_of l.fn.standing)) ≡ looked_first
          (Some (l.standing).looked) (painted_rest h l.c (drop l.c (this_line h))
          (standing_of l.standing) l.spans);
      at : IsAt h l.c l.standing;
      memory : g.S.Site.stands l.site l.memory;
    }

abbrev pub decreases-columns : goal.decreases-columns
decreases-columns g l = l.len - l.c
