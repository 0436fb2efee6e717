use Rattle.item_pick.proofs.Common.{◌≡◌, ◌<◌, ℕ, true, Some, slice_get, Pattern, is_screened}
use Rattle.item_pick.proofs.asked.Asked.are_screened.Given as goal

-- the patterns before are screened
abbrev pub invariant-loop-pattern : goal.invariant-loop-pattern
invariant-loop-pattern l =
    (n : ℕ) → n < l.pattern-index → (p : Pattern) → Some p ≡ slice_get l.patterns n → is_screened l.self.parts.now.sets.now l.self.budget l.ignore l.number p ≡ true
