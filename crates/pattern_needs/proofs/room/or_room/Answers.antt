use Rattle.std.proofs.Common.{arith}
use Rattle.pattern_needs.specs.Growths.{grown}
use Rattle.pattern_needs.proofs.GrowthLaws.{or-total}
use Rattle.pattern_needs.proofs.room.or_room.Goals as goal

pub returns : goal.returns
returns c =
    or-total c.args.a c.args.b (record { ways = c.in_ok-and_each.field-0; cost = c.in_ok-and_each-2.field-0 })
    (λ f left. omega (arith, c.in_ok-and_each.ensures f left, c.one.ensures (grown c.args.b.ways.by f) left))
    (λ f left. omega (arith, c.in_ok-and_each-2.ensures f left, c.one-2.ensures (grown c.args.b.cost.by f) left))
