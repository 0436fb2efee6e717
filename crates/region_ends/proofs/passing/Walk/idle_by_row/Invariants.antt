use Rattle.region_ends.proofs.Common.{◌≤◌, ◌<◌, ℕ, IsPassedOver}
use Rattle.region_ends.proofs.passing.Walk.idle_by_row.Given as goal

-- the columns before are passed over
abbrev pub invariant-loop-col : goal.invariant-loop-col
invariant-loop-col l = record {
  from : l.c ≤ l.col;
  passed : (k : ℕ) → l.c ≤ k → k < l.col → IsPassedOver l.self k;
}
