use Rattle.std.proofs.Common.{◌≡◌, ◌≤◌, ◌+◌}
use Rattle.vim_pattern.specs.Shape.{bare}
use Rattle.vim_pattern.specs.Parted.{node_count}
use Rattle.pattern_needs.specs.Needs.{needed, rather}
use Rattle.pattern_needs.proofs.piece.piece_behind.Given as goal

abbrev pub decreases-loop-rest : goal.decreases-loop-rest
decreases-loop-rest l = node_count (bare l.rest)

-- what the best piece and the rest need is what the whole needs
abbrev pub invariant-loop-rest : goal.invariant-loop-rest
invariant-loop-rest l = record {
  same : rather (needed (bare l.best)) (needed (bare l.rest))
      ≡ rather (needed (bare l.fn.first)) (needed (bare l.fn.node));
  within : node_count (bare l.best) + node_count (bare l.rest)
      ≤ node_count (bare l.fn.first) + node_count (bare l.fn.node);
}
