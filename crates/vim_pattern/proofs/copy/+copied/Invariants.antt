use Rattle.std.proofs.Common.{◌≡◌, ◌≤◌}
use Rattle.vim_pattern.specs.Shape.{bare}
use Rattle.vim_pattern.specs.Copied.{all_over}
use Rattle.vim_pattern.specs.Parted.{node_count}
use Rattle.vim_pattern.proofs.copy.+copied.Given as goal

abbrev pub decreases-copied : goal.decreases-copied
decreases-copied l = node_count (bare l.node.now)

-- what has been passed, over what is left, is the whole
abbrev pub invariant-loop-alloc : goal.invariant-loop-alloc
invariant-loop-alloc l = record {
  same : all_over l.all.items (bare l.rest) ≡ bare l.fn.node;
  within : node_count (bare l.rest) ≤ node_count (bare l.fn.node);
}

abbrev pub decreases-loop-alloc : goal.decreases-loop-alloc
decreases-loop-alloc l = node_count (bare l.rest)
