use Rattle.line_paint.proofs.Common.{◌≡◌, ◌≤◌, ◌-◌, drop, reverse, Some, looked_first, this_line, standing_of, painted_rest, ShowsOver}
use Rattle.line_paint.proofs.paint.show_quiet.Given as goal

-- what is left is the line from `c` on
abbrev pub invariant-quiet : goal.invariant-quiet
invariant-quiet g l =
    let h = g.S.Site.here l.site in
    record {
      whole : looked_first (Some (l.standing).looked)
          (painted_rest h l.from (drop l.from (this_line h)) (standing_of l.standing) l.fn.spans)
          ≡ looked_first (Some (l.standing).looked)
          (painted_rest h l.c (drop l.c (this_line h)) (standing_of l.standing) l.spans);
      from : l.from ≤ l.c;
      to : l.c ≤ l.to;
      shows : ShowsOver h.rules (reverse (l.standing).state.stack) l.c l.stretch;
    }

abbrev pub decreases-quiet : goal.decreases-quiet
decreases-quiet g l = l.to - l.c
