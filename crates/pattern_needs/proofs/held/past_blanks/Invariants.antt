use Rattle.std.proofs.Common.{◌≡◌, ◌<◌, ◌≤◌, ℕ, Some, true}
use Rattle.std.specs.Prelude.{slice_get}
use Rattle.pattern_needs.specs.Nonblanks.{is_blank}
use Rattle.pattern_needs.proofs.held.past_blanks.Given as goal

-- those before are blanks
abbrev pub invariant-loop-col : goal.invariant-loop-col
invariant-loop-col l =
    (i c : ℕ) → l.fn.from ≤ i → i < l.col → slice_get l.line i ≡ Some c → is_blank c ≡ true
