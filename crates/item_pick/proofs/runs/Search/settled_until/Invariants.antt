use Rattle.item_pick.proofs.Common.{◌<◌, ◌≤◌, ℕ, get_or, length, Text, Rules, place_at, IsQuiet, item_numbered, HoldsLine, LineStands}
use Rattle.item_pick.proofs.runs.Search.settled_until.Given as goal

-- those before have no match up to the end
abbrev pub invariant-loop-id : goal.invariant-loop-id
invariant-loop-id i = record {
  within : i.end ≤ length i.self.line.now.numbers.items;
  quiet : (r : Rules) (t : Text) (l : ℕ) → LineStands r t l i.self.line.now → HoldsLine i.self.looked l → (k : ℕ) → k < i.id-index → (c : ℕ) → i.self.at ≤ c → c < i.end →
      IsQuiet r t (place_at l c) i.self.floor i.self.looked (item_numbered (get_or i.list k 0));
}
