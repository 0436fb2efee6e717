use Rattle.region_ends.proofs.Common.{◌≤◌, ℕ, arith, inl, inr, IsPassedOver, below_more, cases_lt}
use Rattle.region_ends.proofs.passing.Walk.idle_until.Goals as goal

pub columns-preserved : goal.columns-preserved
columns-preserved c =
    let idle = c.known_idle_until-known.ensures in
    let known = c.known_idle_until-known.result in
    record {
      answers = c.passes.ensures.answers;
      from = omega (arith, c.columns.invariant.from, idle.from);
      within = omega (arith, idle.within);
      passed = λ k from below.
          below_more (λ (k : ℕ). c.args.c ≤ k → IsPassedOver c.args.self.now k) known
          (λ k b a. elim (cases_lt k c.columns.col) [
            | inl before ↦ c.columns.invariant.passed k a before
            | inr behind ↦ idle.idle k behind b
          ])
          (λ _. c.passes.ensures.passed c.if-not-passes.false) k below from;
    }
