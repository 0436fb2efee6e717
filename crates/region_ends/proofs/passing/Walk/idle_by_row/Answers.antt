use Rattle.region_ends.proofs.Common.{◌≤◌, ℕ, arith, IsPassedOver, below_more}
use Rattle.region_ends.proofs.passing.Walk.idle_by_row.Goals as goal

pub loop-col-preserved : goal.loop-col-preserved
loop-col-preserved c = record {
  from = omega (arith, c.loop-col.invariant.from);
  passed = λ k from below.
      below_more (λ (k : ℕ). c.args.c ≤ k → IsPassedOver c.args.self.now k) c.loop-col.col (λ k b a. c.loop-col.invariant.passed k a b)
      (λ _. c.is_known_idle.ensures c.if-not-is_known_idle.false) k below from;
}
