use Rattle.item_pick.proofs.Common.{◌≡◌, ◌<◌, ℕ, true, Some, slice_get, Pattern}
use Rattle.item_pick.specs.Tables.{is_cheap}
use Rattle.item_pick.proofs.asked.Asked.are_cheap.Given as goal

-- attempts in vain by the patterns before are within the budget
abbrev pub invariant-loop-pattern : goal.invariant-loop-pattern
invariant-loop-pattern l =
    (n : ℕ) → n < l.pattern-index → (p : Pattern) → Some p ≡ slice_get l.patterns n → is_cheap l.self.budget p ≡ true
