use Rattle.item_pick.proofs.Common.{◌<◌, ◌≤◌, ℕ, get_or, length, rules_in, item_numbered, AnswersStand, Lacks, RisesTo, stays_out, StaysOut}
use Rattle.item_pick.specs.Tables.{AreAdmitted}
use Rattle.item_pick.proofs.asked.Asked.narrowed.Given as goal

-- those before are on the list, or stay out
abbrev pub invariant-loop-id : goal.invariant-loop-id
invariant-loop-id l = record {
  outs : AnswersStand (stays_out (rules_in l.self.parts.now l.self.budget)) l.outs;
  lists : (k : ℕ) → k < l.id-index → get_or l.all.items.items k 0 < length (rules_in l.self.parts.now l.self.budget).items → Lacks l.items.items (get_or l.all.items.items k 0) →
      StaysOut (rules_in l.self.parts.now l.self.budget) l.number (item_numbered (get_or l.all.items.items k 0));
  rises : (n : ℕ) → ((k : ℕ) → k < l.id-index → get_or l.all.items.items k 0 ≤ n) → RisesTo n l.items.items;
  admitted : AreAdmitted (rules_in l.self.parts.now l.self.budget) l.all.choice l.items.items;
}
