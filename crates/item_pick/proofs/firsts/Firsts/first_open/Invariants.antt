use Rattle.item_pick.proofs.Common.{◌<◌, ◌≤◌, ◌-◌, ℕ, length, Text, line_at, rules_in, AreFirstsOf, IsReachOf, IsMissed, LineStands}
use Rattle.item_pick.proofs.firsts.Firsts.first_open.Given as goal

-- the columns before are missed
abbrev pub invariant-columns : goal.invariant-columns
invariant-columns i =
    let r = rules_in i.asked.parts.now i.asked.budget in
    record {
      stands : AreFirstsOf r i.self;
      reaches : IsReachOf r i.by.item i.reach;
      from : i.from ≤ i.col;
      missed : (t : Text) (l : ℕ) → LineStands r t l i.line → (c : ℕ) → i.from ≤ c → c < i.col → IsMissed r (line_at t l) i.by.item i.by.pattern.now c;
    }

abbrev pub decreases-columns : goal.decreases-columns
decreases-columns i = length i.line.numbers.items - i.col
