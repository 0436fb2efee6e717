use Rattle.item_pick.proofs.Common.{◌<◌, ◌≤◌, ◌⊎◌, ℕ, get_or, length, reverse, IsNonDecreasing, Text, line_at, place_at, rules_in, IsPassed, item_numbered, HoldsLine, AreKnown}
use Rattle.item_pick.proofs.tables.Tables.next_open.Given as goal

-- those that are below `left` have started or don't start, from `count` on
abbrev pub invariant-items : goal.invariant-items
invariant-items i = record {
  within : i.count ≤ length i.list;
  below : IsNonDecreasing i.list → (k : ℕ) → k < i.count → get_or i.list k 0 < i.left;
  passed : IsNonDecreasing i.list → (k : ℕ) → i.count ≤ k → k < length i.list →
      (i.left ≤ get_or i.list k 0) ⊎ ((t : Text) (l : ℕ) → AreKnown (rules_in i.asked.parts.now i.asked.budget) t l i.self i.search.line.now → i.search.at ≤ length (line_at t l) → HoldsLine i.search.looked l → IsPassed (rules_in i.asked.parts.now i.asked.budget) t (place_at l i.search.at) i.search.floor i.search.looked (reverse i.search.tried.now) (item_numbered (get_or i.list k 0)));
}

abbrev pub decreases-items : goal.decreases-items
decreases-items i = i.count
