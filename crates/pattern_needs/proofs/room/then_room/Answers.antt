use Rattle.std.proofs.Common.{arith}
use Rattle.pattern_needs.proofs.GrowthLaws.{then-total}
use Rattle.pattern_needs.proofs.room.then_room.Goals as goal

pub returns : goal.returns
returns c =
    then-total c.args.a c.args.b (record { ways = c.in_ok-and_each.field-0; cost = c.in_ok-and_each-2.field-0 })
    (λ f left. omega (arith, c.in_ok-and_each.ensures f left, c.none.ensures f left)) c.in_ok-and_each-2.ensures
