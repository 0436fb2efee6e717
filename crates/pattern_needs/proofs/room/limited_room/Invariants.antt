use Rattle.std.proofs.Common.{◌≡◌}
use Rattle.pattern_needs.specs.Growths.{total}
use Rattle.pattern_needs.specs.LineCosts.{limited}
use Rattle.pattern_needs.proofs.room.limited_room.Given as goal

abbrev pub invariant-loop-turn : goal.invariant-loop-turn
invariant-loop-turn l = total l.all ≡ limited (total l.a) l.free l.turn
