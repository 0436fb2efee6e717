use Rattle.item_pick.proofs.Common.{◌<◌, ℕ, get_or, rules_in, item_numbered}
use Rattle.item_pick.specs.Tables.{StartsCheaply}
use Rattle.item_pick.proofs.asked.Asked.start_cheaply.Given as goal

-- so are those of the items before
abbrev pub invariant-loop-id : goal.invariant-loop-id
invariant-loop-id l =
    (k : ℕ) → k < l.id-index → StartsCheaply (rules_in l.self.parts.now l.self.budget) (item_numbered (get_or l.items k 0))
