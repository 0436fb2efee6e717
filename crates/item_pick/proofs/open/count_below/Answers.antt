use Rattle.item_pick.proofs.Common.{ℕ, arith, nat_tests, rules, nat_lt, of_calls, IsPartitionedBy-ltb}
use Rattle.std.proofs.lemmas.Fn.{always_returns_same}
use Rattle.item_pick.proofs.open.count_below.Goals as goal

pub returns-clause-below : goal.returns-clause-below
returns-clause-below c rises k h =
    let list = c.args.list.now in
    let point = c.partition_point.ensures.partitioned (λ (n : ℕ). nat_lt n c.args.bound) (always_returns_same _ _ _ (λ a r f k. search (rules, of_calls))) (IsPartitionedBy-ltb (λ n. n) list c.args.bound rises) in
    (let e = point.0 k 0 (omega arith) h in grind (arith, nat_tests))

pub returns-clause-rest : goal.returns-clause-rest
returns-clause-rest c rises k a h =
    let list = c.args.list.now in
    let point = c.partition_point.ensures.partitioned (λ (n : ℕ). nat_lt n c.args.bound) (always_returns_same _ _ _ (λ a r f k. search (rules, of_calls))) (IsPartitionedBy-ltb (λ n. n) list c.args.bound rises) in
    (let e = point.1 k 0 a h in grind (arith, nat_tests))
