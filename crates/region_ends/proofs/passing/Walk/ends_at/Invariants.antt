use Rattle.region_ends.proofs.Common.{◌≡◌, ◌≤◌, length, take, reverse, Some, looked_first, first_found, end_at, search_in}
use Rattle.region_ends.proofs.passing.Walk.ends_at.Given as goal

-- what is left are the patterns before
abbrev pub invariant-ends : goal.invariant-ends
invariant-ends g l =
    let s = search_in l.self.search (g.T.Lines.lines l.lines) in
    record {
      whole : looked_first (Some l.fn.looked) (first_found (end_at s l.c) (reverse l.self.ends.now)) ≡ looked_first (Some l.seen) (first_found (end_at s l.c) (reverse (take l.left l.self.ends.now)));
      within : l.left ≤ length l.self.ends.now;
    }

abbrev pub decreases-ends : goal.decreases-ends
decreases-ends g l = l.left
