use Rattle.pattern_screens.proofs.Common.{◌≡◌, ◌≤◌, ◌+◌, ◌*◌, bare, node_count, bound_of, or_bound, then_bound}
use Rattle.pattern_screens.proofs.bounds.+bound_of.Given as goal

abbrev pub decreases-bound_of : goal.decreases-bound_of
decreases-bound_of l = 2 * node_count (bare l.node.now)

abbrev pub decreases-bound_behind : goal.decreases-bound_behind
decreases-bound_behind l = 2 * node_count (bare l.node.now) + 1

abbrev pub decreases-bound_either : goal.decreases-bound_either
decreases-bound_either l = 2 * node_count (bare l.node.now) + 1

abbrev pub decreases-bound_behind-loop-known : goal.decreases-bound_behind-loop-known
decreases-bound_behind-loop-known l = node_count (bare l.rest)

-- what is known, with the bound of the rest, is the bound of the whole
abbrev pub invariant-bound_behind-loop-known : goal.invariant-bound_behind-loop-known
invariant-bound_behind-loop-known l = record {
  same : then_bound l.known (bound_of l.taking (bare l.rest)) ≡ then_bound l.fn.first (bound_of l.fn.taking (bare l.fn.node));
  within : node_count (bare l.rest) ≤ node_count (bare l.fn.node);
}

abbrev pub decreases-bound_either-loop-rest : goal.decreases-bound_either-loop-rest
decreases-bound_either-loop-rest l = node_count (bare l.rest)

abbrev pub invariant-bound_either-loop-rest : goal.invariant-bound_either-loop-rest
invariant-bound_either-loop-rest l = record {
  same : or_bound l.known (bound_of l.taking (bare l.rest)) ≡ or_bound l.fn.one (bound_of l.fn.taking (bare l.fn.node));
  within : node_count (bare l.rest) ≤ node_count (bare l.fn.node);
}
