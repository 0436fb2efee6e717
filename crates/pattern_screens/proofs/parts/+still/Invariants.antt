use Rattle.pattern_screens.proofs.Common.{◌≡◌, ◌≤◌, ◌+◌, ◌*◌, Some, bare, node_count, both, in_turn, or_still, still_of}
use Rattle.pattern_screens.proofs.parts.+still.Given as goal

abbrev pub decreases-still_of : goal.decreases-still_of
decreases-still_of l = 2 * node_count (bare l.node.now)

abbrev pub decreases-still_behind : goal.decreases-still_behind
decreases-still_behind l = 2 * node_count (bare l.node.now) + 1

abbrev pub decreases-still_either : goal.decreases-still_either
decreases-still_either l = 2 * node_count (bare l.node.now) + 1

abbrev pub decreases-still_behind-loop-known : goal.decreases-still_behind-loop-known
decreases-still_behind-loop-known l = node_count (bare l.rest)

-- what is known, with what the rest does, is what the whole does
abbrev pub invariant-still_behind-loop-known : goal.invariant-still_behind-loop-known
invariant-still_behind-loop-known l = record {
  same : in_turn l.known (still_of l.by.sets.now l.by.ignore l.key (bare l.rest)) ≡ in_turn l.fn.first (still_of l.by.sets.now l.by.ignore l.key (bare l.fn.node));
  within : node_count (bare l.rest) ≤ node_count (bare l.fn.node);
}

abbrev pub decreases-still_either-loop-rest : goal.decreases-still_either-loop-rest
decreases-still_either-loop-rest l = node_count (bare l.rest)

abbrev pub invariant-still_either-loop-rest : goal.invariant-still_either-loop-rest
invariant-still_either-loop-rest l = record {
  same : both or_still (Some l.known) (still_of l.by.sets.now l.by.ignore l.key (bare l.rest)) ≡ both or_still (Some l.fn.one) (still_of l.by.sets.now l.by.ignore l.key (bare l.fn.node));
  within : node_count (bare l.rest) ≤ node_count (bare l.fn.node);
}
