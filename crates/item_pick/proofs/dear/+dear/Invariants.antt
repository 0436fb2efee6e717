use Rattle.std.proofs.Common.{◌≤◌}
use Rattle.vim_pattern.specs.Parted.{node_count}
use Rattle.vim_pattern.specs.Shape.{bare}
use Rattle.item_pick.proofs.dear.+dear.Given as goal

abbrev pub decreases-counts_choices : goal.decreases-counts_choices
decreases-counts_choices l = node_count (bare l.node.now)

abbrev pub invariant-loop-pair : goal.invariant-loop-pair
invariant-loop-pair l = record {
  within : node_count (bare l.rest) ≤ node_count (bare l.fn.node);
}

abbrev pub decreases-loop-pair : goal.decreases-loop-pair
decreases-loop-pair l = node_count (bare l.rest)
