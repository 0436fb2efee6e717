use Rattle.item_pick.proofs.Common.{◌≡◌, ◌<◌, ℕ, Some, slice_get, Pattern, IsLineNeedOf}
use Rattle.item_pick.proofs.asked.Asked.need_of_any.Given as goal

-- what it says is needed by the patterns before
abbrev pub invariant-loop-pattern : goal.invariant-loop-pattern
invariant-loop-pattern l =
    (n : ℕ) → n < l.pattern-index → (p : Pattern) → Some p ≡ slice_get l.patterns n → IsLineNeedOf l.self.parts.now.sets.now l.ignore l.self.budget p.tree l.need
