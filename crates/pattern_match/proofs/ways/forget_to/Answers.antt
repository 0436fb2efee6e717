use Rattle.std.proofs.Common.{◌≡◌, ◌+◌, ◌-◌, length, arith, ◌∙◌}
use Rattle.std.proofs.lemmas.Bool.Decides.{nat_tests}
use Rattle.pattern_match.proofs.PendingLaws.{kept_last}
use Rattle.pattern_match.proofs.ways.forget_to.Goals as goal

pub returns-then-next-count : goal.returns-then-next-count
returns-then-next-count c =
    let items = c.loop-pending.pending.items in
    let many : length items ≡ (c.len-last.result - 1) + 1 = grind (arith, nat_tests, c.loop-pending-test.true, c.loop-pending-test.ensures) in
    kept_last items (c.len-last.result - 1) c.args.count c.index-next.result.now many c.index-next.ensures c.if-next-count.true ∙ c.loop-pending.invariant
