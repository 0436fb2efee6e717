use Rattle.item_pick.proofs.Common.{◌≡◌, ◌<◌, ◌≤◌, ℕ, true, Text, Rules, line_at, AreFirstsOf, IsAnchored, IsFirst, IsMissed, LineStands, TakesFirst}
use Rattle.item_pick.proofs.firsts.Firsts.told_until.Given as goal

-- the columns before are missed
abbrev pub invariant-loop-col : goal.invariant-loop-col
invariant-loop-col i =
    (r : Rules) (t : Text) (l : ℕ) → AreFirstsOf r i.self → IsFirst r i.by.item i.by.pattern.now → (i.anchored ≡ true → IsAnchored r i.by.item) → (i.takes ≡ true → TakesFirst r i.by.item) → LineStands r t l i.line →
    (c : ℕ) → i.from ≤ c → c < i.col → IsMissed r (line_at t l) i.by.item i.by.pattern.now c
