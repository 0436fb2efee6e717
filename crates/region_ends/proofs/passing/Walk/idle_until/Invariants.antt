use Rattle.region_ends.proofs.Common.{◌≤◌, ◌<◌, ◌-◌, ℕ, suc, length, IsPassedOver, ShutStands}
use Rattle.region_ends.proofs.passing.Walk.idle_until.Given as goal

-- the columns before are passed over
abbrev pub invariant-columns : goal.invariant-columns
invariant-columns l = record {
  answers : ShutStands l.self.search l.answers;
  from : l.c ≤ l.col;
  within : l.col ≤ suc (length l.self.line.now);
  passed : (k : ℕ) → l.c ≤ k → k < l.col → IsPassedOver l.self k;
}

abbrev pub decreases-columns : goal.decreases-columns
decreases-columns l = suc l.last - l.col
