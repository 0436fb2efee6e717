use Rattle.std.proofs.Common.{◌≤◌, ◌+◌, ◌*◌}
use Rattle.vim_pattern.specs.Shape.{Shape, bare}
use Rattle.vim_pattern.specs.Parted.{node_count}
use Rattle.pattern_needs.specs.Spreads.{IsSpread, or_spreads, then_spreads}
use Rattle.pattern_needs.specs.declared.spread.Spreads.{Spreads}
use Rattle.pattern_needs.proofs.spreading.+spreads.Given as goal

abbrev pub decreases-spread_of : goal.decreases-spread_of
decreases-spread_of l = 2 * node_count (bare l.node.now)

abbrev pub decreases-spread_behind : goal.decreases-spread_behind
decreases-spread_behind l = 2 * node_count (bare l.node.now) + 1

abbrev pub decreases-spread_either : goal.decreases-spread_either
decreases-spread_either l = 2 * node_count (bare l.node.now) + 1

abbrev pub decreases-spread_behind-loop-rest : goal.decreases-spread_behind-loop-rest
decreases-spread_behind-loop-rest l = node_count (bare l.rest)

-- what is known, with the rest behind it, is what the first part has with the node behind it
abbrev pub invariant-spread_behind-loop-rest : goal.invariant-spread_behind-loop-rest
invariant-spread_behind-loop-rest l = record {
  leads : (whole : Shape) → ((s : Spreads) → IsSpread l.by.sets.now l.by.ignore l.most (bare l.fn.node) s → IsSpread l.by.sets.now l.by.ignore l.most whole (then_spreads l.fn.first s)) →
      (s : Spreads) → IsSpread l.by.sets.now l.by.ignore l.most (bare l.rest) s → IsSpread l.by.sets.now l.by.ignore l.most whole (then_spreads l.known s);
  within : node_count (bare l.rest) ≤ node_count (bare l.fn.node);
}

abbrev pub decreases-spread_either-loop-rest : goal.decreases-spread_either-loop-rest
decreases-spread_either-loop-rest l = node_count (bare l.rest)

abbrev pub invariant-spread_either-loop-rest : goal.invariant-spread_either-loop-rest
invariant-spread_either-loop-rest l = record {
  leads : (whole : Shape) → ((s : Spreads) → IsSpread l.by.sets.now l.by.ignore l.most (bare l.fn.node) s → IsSpread l.by.sets.now l.by.ignore l.most whole (or_spreads l.fn.one s)) →
      (s : Spreads) → IsSpread l.by.sets.now l.by.ignore l.most (bare l.rest) s → IsSpread l.by.sets.now l.by.ignore l.most whole (or_spreads l.known s);
  within : node_count (bare l.rest) ≤ node_count (bare l.fn.node);
}
