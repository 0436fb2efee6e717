use Rattle.item_pick.proofs.Common.{◌<◌, ℕ, get_or, Text, line_at, place_at, rules_by, IsQuiet, item_numbered, HoldsLine, IsNumberAt, AreKnown}
use Rattle.item_pick.proofs.tables.Tables.are_still.Given as goal

-- the items before don't start
abbrev pub invariant-loop-id : goal.invariant-loop-id
invariant-loop-id i =
    (t : Text) (l : ℕ) → AreKnown (rules_by i._asked) t l i.self i.line → IsNumberAt (rules_by i._asked) (line_at t l) i.col i.number → (floor : ℕ) → HoldsLine i.looked l →
    (k : ℕ) → k < i.id-index → IsQuiet (rules_by i._asked) t (place_at l i.col) floor i.looked (item_numbered (get_or i.list k 0))
