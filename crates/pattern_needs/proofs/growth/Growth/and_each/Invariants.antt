use Rattle.std.proofs.Common.{◌≤◌}
use Rattle.pattern_needs.proofs.GrowthLaws.{IsFromPlace}
use Rattle.pattern_needs.proofs.growth.Growth.and_each.Given as goal

abbrev pub decreases-loop-at : goal.decreases-loop-at
decreases-loop-at l = l.at

-- what is told is that from there on
abbrev pub invariant-loop-at : goal.invariant-loop-at
invariant-loop-at l = record {
  within : l.at ≤ 8;
  from : IsFromPlace l.self.by l.ways.by l.more.by l.at l.all.by;
}
