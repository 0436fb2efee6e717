use Rattle.item_pick.proofs.Common.{◌≤◌, ◌+◌, ℕ, inl, inr, cases_lt, below_more, arith, line_at, rules_by, IsMissed}
use Rattle.item_pick.proofs.firsts.Firsts.first_open.Goals as goal

pub columns-init : goal.columns-init
columns-init c = record {
  stands = c.reach.ensures.stands;
  reaches = c.in_ok-reach.ensures.reach;
  from = c.told_until-col.ensures.from;
  missed = λ t l line. c.told_until-col.ensures.missed (rules_by c.args.asked.now) t l c.reach.ensures.stands c.requires.first.first c.in_ok-reach.ensures.reach.anchored c.in_ok-reach.ensures.reach.takes line;
}

pub columns-preserved : goal.columns-preserved
columns-preserved c =
    let r = rules_by c.args.asked.now in
    let by = c.args.by.now in
    let before = c.columns.invariant in
    let col = c.columns.col in
    let next = c.told_until-col-in-columns.ensures in
    record {
      stands = c.is_missed_at.ensures.stands;
      reaches = before.reaches;
      from = omega (arith, before.from, next.from);
      missed = λ t l line k from below. elim (cases_lt k (col + 1)) [
        | inl here ↦
            below_more (λ (k : ℕ). c.args.from ≤ k → IsMissed r (line_at t l) by.item by.pattern.now k) col (λ k b a. before.missed t l line k a b)
            (λ _. c.in_ok-is_missed_at.ensures.missed c.if-not-branch.false t l line) k here from
        | inr past ↦ next.missed r t l c.is_missed_at.ensures.stands c.requires.first.first before.reaches.anchored before.reaches.takes line k past below
      ];
    }
