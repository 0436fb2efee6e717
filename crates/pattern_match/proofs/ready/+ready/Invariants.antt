use Rattle.std.proofs.Common.{◌≤◌, ◌+◌, ◌*◌}
use Rattle.vim_pattern.specs.Shape.{bare}
use Rattle.vim_pattern.specs.Parted.{node_count}
use Rattle.pattern_match.specs.LastParts.{all_over}
use Rattle.pattern_match.specs.StandsFor.{StandsFor}
use Rattle.pattern_match.proofs.ready.+ready.Given as goal

abbrev pub decreases-made : goal.decreases-made
decreases-made l = 2 * node_count (bare l.node.now) + 1

abbrev pub decreases-taken_apart : goal.decreases-taken_apart
decreases-taken_apart l = 2 * node_count (bare l.node.now)

abbrev pub decreases-made-loop-all : goal.decreases-made-loop-all
decreases-made-loop-all l = node_count (bare l.rest)

-- what has been passed, over what is left, stands for the whole
abbrev pub invariant-made-loop-all : goal.invariant-made-loop-all
invariant-made-loop-all l = record {
  stands : StandsFor (all_over l.all.items (bare l.rest)) (bare l.fn.node);
  within : node_count (bare l.rest) ≤ node_count (bare l.fn.node);
}
