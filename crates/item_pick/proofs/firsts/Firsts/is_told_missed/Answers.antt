use Rattle.item_pick.proofs.Common.{◌≡◌, ◌<◌, sym, subst, arith, true, nat_lt, nat_tests, takes_first, line_at}
use Rattle.item_pick.proofs.FirstLaws.{told_here, told_after}
use Rattle.item_pick.proofs.firsts.Firsts.is_told_missed.Goals as goal

pub returns-then-is_told : goal.returns-then-is_told
returns-then-is_told c _ r t l firsts first takes line =
    let by = c.args.by.now in
    told_here r (line_at t l) c.args.col c.in-Some.number (c.in-Some.ensures r t l line) by.item (c.is_told.ensures c.if-is_told.true r firsts) by.pattern.now first

pub returns-in-Some-number_behind : goal.returns-in-Some-number_behind
returns-in-Some-number_behind c e r t l firsts first takes line =
    let by = c.args.by.now in
    let key = c.in-Some-number_behind.ensures r t l line in
    let later : 0 < c.args.col = key.0 in
    let some : nat_lt 0 c.args.col ≡ true = grind (arith, nat_tests, later) in
    told_after r (line_at t l) c.args.col c.in-Some-number_behind.behind key.1 by.item (c.is_told-in-Some-number_behind.ensures e r firsts) by.pattern.now
    (subst (λ n. takes_first n by.pattern.now.tree.node ≡ true) (sym some) (takes c.if-not-takes.false by.pattern.now first)) first
