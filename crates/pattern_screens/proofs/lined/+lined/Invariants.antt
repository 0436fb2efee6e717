use Rattle.pattern_screens.proofs.Common.{◌≡◌, ◌≤◌, ◌+◌, ◌*◌, bare, node_count, is_lined}
use Rattle.pattern_screens.proofs.lined.+lined.Given as goal

abbrev pub decreases-is_lined : goal.decreases-is_lined
decreases-is_lined l = 2 * node_count (bare l.node.now)

abbrev pub decreases-are_lined : goal.decreases-are_lined
decreases-are_lined l = 2 * node_count (bare l.node.now) + 1

abbrev pub decreases-are_lined-loop-rest : goal.decreases-are_lined-loop-rest
decreases-are_lined-loop-rest l = node_count (bare l.rest)

-- the parts before stay in their line
abbrev pub invariant-are_lined-loop-rest : goal.invariant-are_lined-loop-rest
invariant-are_lined-loop-rest l = record {
  same : is_lined (bare l.rest) ≡ is_lined (bare l.fn.node);
  within : node_count (bare l.rest) ≤ node_count (bare l.fn.node);
}
