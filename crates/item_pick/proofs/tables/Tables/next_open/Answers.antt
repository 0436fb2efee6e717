use Rattle.item_pick.proofs.Common.{false, list_any, same_item, ◌<◌, ◌+◌, ◌-◌, ◌≡◌, inl, inr, subst, arith, get_or, length, reverse, cases_lt, place_at, IsPassed, item_numbered, rules_in}
use Rattle.item_pick.proofs.TableLaws.{next_in}
use Rattle.item_pick.proofs.tables.Tables.next_open.Goals as goal

pub items-init : goal.items-init
items-init c = record {
  within = c.count_below-count.ensures.within;
  below = c.count_below-count.ensures.below;
  passed = λ rises k a b. inl (c.count_below-count.ensures.rest rises k a b);
}

pub items-preserved : goal.items-preserved
items-preserved c =
    let search = c.args.search.now in
    let list = c.args.list.now in
    let before = c.items.invariant in
    record {
      within = omega (arith, before.within);
      below = λ rises k h. before.below rises k (omega (arith, h));
      passed = λ rises k a b. elim (cases_lt k c.items.count) [
        | inl here ↦
            let same : c.items.count - 1 ≡ k = omega (arith, here, a) in
            inr (λ t l memory within held.
            subst (λ n. IsPassed (rules_in c.args.asked.now.parts.now c.args.asked.now.budget) t (place_at l search.at) search.floor search.looked (reverse search.tried.now) (item_numbered (get_or list n 0))) same
            (c.is_over.ensures.passed c.if-not-is_over.false t l memory within held))
        | inr more ↦ before.passed rises k more b
      ];
    }

pub returns-then-not-is_over-clause-next : goal.returns-then-not-is_over-clause-next
returns-then-not-is_over-clause-next c rises t l memory within held =
    let search = c.args.search.now in
    let list = c.args.list.now in
    let count = c.items.count in
    let some = c.items-test.true in
    let last : count - 1 < length list = omega (arith, c.items.invariant.within, some) in (
      omega (arith, c.items.invariant.below rises (count - 1) (omega (arith, some))),
      next_in (λ j. IsPassed (rules_in c.args.asked.now.parts.now c.args.asked.now.budget) t (place_at l search.at) search.floor search.looked (reverse search.tried.now) (item_numbered j))
          list c.args.left (get_or list (count - 1) 0 + 1) count (λ k h. omega (arith, rises k (count - 1) 0 (omega (arith, h)) last))
          (λ k a b. elim (c.items.invariant.passed rises k a b) [
            | inl above ↦ inl above
            | inr passed ↦ inr (passed t l memory within held)
          ]),
    )

pub returns-clause-next : goal.returns-clause-next
returns-clause-next c rises t l memory within held =
    let search = c.args.search.now in (
      omega arith,
      next_in (λ j. IsPassed (rules_in c.args.asked.now.parts.now c.args.asked.now.budget) t (place_at l search.at) search.floor search.looked (reverse search.tried.now) (item_numbered j))
          c.args.list.now c.args.left 0 c.items.count (λ k h. absurd (omega (arith, h, c.items-test.false)))
          (λ k a b. elim (c.items.invariant.passed rises k a b) [
            | inl above ↦ inl above
            | inr passed ↦ inr (passed t l memory within held)
          ]),
    )

pub returns-then-not-is_over-clause-last : goal.returns-then-not-is_over-clause-last
returns-then-not-is_over-clause-last c j e =
    let same : get_or c.args.list.now (c.items.count - 1) 0 ≡ j = omega (arith, e) in (
      (c.items.count - 1, omega (arith, c.items.invariant.within, c.items-test.true), same),
      subst (λ n. list_any (same_item (item_numbered n)) (reverse c.args.search.now.tried.now) ≡ false) same (c.is_over.ensures.untried c.if-not-is_over.true),
    )
