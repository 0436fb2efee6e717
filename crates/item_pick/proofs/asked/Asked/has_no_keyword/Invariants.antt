use Rattle.item_pick.proofs.Common.{◌≡◌, ◌<◌, ℕ, false, rules_in, item_numbered, admits}
use Rattle.item_pick.specs.Wordless.{StartsByWord}
use Rattle.item_pick.proofs.asked.Asked.has_no_keyword.Given as goal

-- of the items before the choice has no keyword
abbrev pub invariant-loop-id : goal.invariant-loop-id
invariant-loop-id l =
    let r = rules_in l.self.parts.now l.self.budget in
    (j : ℕ) → j < l.id → StartsByWord r (item_numbered j) → admits r l.choice (item_numbered j) ≡ false
