use Rattle.item_pick.proofs.Common.{◌≤◌, ℕ, inl, inr, cases_lt, below_more, arith, line_at, IsMissed}
use Rattle.item_pick.proofs.TableLaws.{anchored_missed}
use Rattle.item_pick.proofs.firsts.Firsts.told_until.Goals as goal

pub returns-then-col-gt0-clause-missed : goal.returns-then-col-gt0-clause-missed
returns-then-col-gt0-clause-missed c r t l firsts first anchored takes stands k from below = elim (cases_lt k c.loop-col.col) [
  | inl here ↦ c.loop-col.invariant r t l firsts first anchored takes stands k from here
  | inr past ↦
      anchored_missed r t l c.args.line.now stands c.args.by.now.item (anchored c.if-anchored.true) c.args.by.now.pattern.now first k
      (omega (arith, c.if-col-gt0.true, past)) (omega (arith, below, c.len-end.ensures))
]

pub loop-col-preserved : goal.loop-col-preserved
loop-col-preserved c r t l firsts first anchored takes stands k from below =
    let by = c.args.by.now in
    below_more (λ (k : ℕ). c.args.from ≤ k → IsMissed r (line_at t l) by.item by.pattern.now k) c.loop-col.col (λ k b a. c.loop-col.invariant r t l firsts first anchored takes stands k a b)
    (λ _. c.is_told_missed.ensures c.if-not-is_told_missed.false r t l firsts first takes stands) k below from

pub returns-clause-missed : goal.returns-clause-missed
returns-clause-missed c r t l firsts first anchored takes stands k from below =
    c.loop-col.invariant r t l firsts first anchored takes stands k from (omega (arith, from, below, c.max.ensures, c.loop-col-test.false))
