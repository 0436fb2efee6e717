use Rattle.std.proofs.Common.{◌≡◌, ◌≤◌, ℕ, Some, true, length}
use Rattle.std.specs.Prelude.{slice_get}
use Rattle.pattern_needs.specs.Nonblanks.{is_blank}
use Rattle.pattern_needs.proofs.held.last_nonblank.Given as goal

abbrev pub decreases-loop-end : goal.decreases-loop-end
decreases-loop-end l = l.end

-- those from there on are blanks
abbrev pub invariant-loop-end : goal.invariant-loop-end
invariant-loop-end l = record {
  within : l.end ≤ length l.line;
  blanks : (i c : ℕ) → l.end ≤ i → slice_get l.line i ≡ Some c → is_blank c ≡ true;
}
