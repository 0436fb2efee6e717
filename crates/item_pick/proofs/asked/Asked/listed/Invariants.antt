use Rattle.item_pick.proofs.Common.{◌≡◌, ◌<◌, ℕ, true, rules_in, item_numbered, admits, Lacks, RisesTo, StaysOut}
use Rattle.item_pick.specs.Tables.{AreAdmitted}
use Rattle.item_pick.proofs.asked.Asked.listed.Given as goal

-- the items before are on the list, or stay out
abbrev pub invariant-loop-id : goal.invariant-loop-id
invariant-loop-id l = record {
  lists : (j : ℕ) → j < l.id → admits (rules_in l.self.parts.now l.self.budget) l.choice (item_numbered j) ≡ true → Lacks l.items.items j →
      StaysOut (rules_in l.self.parts.now l.self.budget) l.number (item_numbered j);
  rises : RisesTo l.id l.items.items;
  admitted : AreAdmitted (rules_in l.self.parts.now l.self.budget) l.choice l.items.items;
}
