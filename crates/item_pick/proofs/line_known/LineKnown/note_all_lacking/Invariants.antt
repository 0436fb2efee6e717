use Rattle.item_pick.proofs.Common.{ℕ, All, Text, rules_in, IsWanted, LineStands}
use Rattle.item_pick.specs.declared.parts.Parts.{Parts}
use Rattle.item_pick.proofs.line_known.LineKnown.note_all_lacking.Given as goal

abbrev pub invariant-loop-one : goal.invariant-loop-one
invariant-loop-one i =
    (parts : Parts) (budget : ℕ) (t : Text) (l : ℕ) → All (IsWanted (rules_in parts budget)) i.wanted → LineStands (rules_in parts budget) t l i.initial.self → LineStands (rules_in parts budget) t l i.self
