use Rattle.item_pick.proofs.Common.{◌≡◌, ◌<◌, ℕ, get_or, length, rules_in, item_wanders, Lacks}
use Rattle.item_pick.proofs.asked.Asked.those.Given as goal

-- those of the items before are on the list
abbrev pub invariant-loop-id : goal.invariant-loop-id
invariant-loop-id l =
    (k : ℕ) → k < l.id-index → get_or l.list k 0 < length (rules_in l.self.parts.now l.self.budget).items → item_wanders (rules_in l.self.parts.now l.self.budget) (get_or l.list k 0) ≡ l.wandering →
    Lacks l.those.items (get_or l.list k 0) → ⊥
