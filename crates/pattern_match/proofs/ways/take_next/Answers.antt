use Rattle.std.proofs.Common.{◌≡◌, ◌+◌, ◌-◌, length, take, true, arith}
use Rattle.std.specs.Prelude.{nat_lt}
use Rattle.std.proofs.lemmas.Bool.Decides.{nat_tests}
use Rattle.pattern_match.specs.declared.ways.Pending.{Pending}
use Rattle.pattern_match.proofs.PendingLaws.{last_read, last_set}
use Rattle.pattern_match.proofs.ways.take_next.Goals as goal

pub returns-then-next-gt1 : goal.returns-then-next-gt1
returns-then-next-gt1 c =
    let items = c.args.pending.now.items in
    let next = c.index-next.result.now in
    let many : length items ≡ (c.len-last.result - 1) + 1 = grind (arith, nat_tests, c.if-is_empty.false, c.if-is_empty.ensures) in
    let more : nat_lt 1 next.count ≡ true = grind (arith, nat_tests, c.if-next-gt1.true) in
    let left : Pending = record next { count = next.count - 1 } in
    (take (c.len-last.result - 1) items, last_read items (c.len-last.result - 1) next many c.index-next.ensures, rw more (last_set items (c.len-last.result - 1) next left many c.index-next.ensures))
