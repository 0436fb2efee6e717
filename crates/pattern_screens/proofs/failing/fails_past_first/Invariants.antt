use Rattle.pattern_screens.proofs.Common.{◌≡◌, ◌<◌, ℕ, false, true, is_first, is_futile, key_numbered}
use Rattle.pattern_screens.proofs.failing.fails_past_first.Given as goal

-- at those before it the screen fails
abbrev pub invariant-loop-number : goal.invariant-loop-number
invariant-loop-number l =
    (n : ℕ) → n < l.number → is_first (key_numbered n).last ≡ false → is_futile l.sets l.ignore (key_numbered n) l.tree ≡ true
