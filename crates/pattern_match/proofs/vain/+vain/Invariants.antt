use Rattle.std.proofs.Common.{◌≡◌, ◌≤◌, ◌+◌, ◌*◌, List}
use Rattle.vim_pattern.specs.Parted.{node_count}
use Rattle.match_rules.specs.Marks.{Mark, followed}
use Rattle.match_rules.specs.Visits.{visits}
use Rattle.match_rules.specs.Ways.{Context as AnyContext, Way}
use Rattle.pattern_match.specs.Steps.{shape_of}
use Rattle.pattern_match.specs.Vain.{IsVainBy}
use Rattle.pattern_match.proofs.vain.+vain.Given as goal

abbrev pub decreases-vain_by : goal.decreases-vain_by
decreases-vain_by l = 3 * node_count (shape_of l.step.now) + 1

abbrev pub decreases-vain_by_parts : goal.decreases-vain_by_parts
decreases-vain_by_parts l = 3 * node_count (shape_of l.step.now)

abbrev pub decreases-vain_pieces : goal.decreases-vain_pieces
decreases-vain_pieces l = 3 * node_count (shape_of l.node.now) + 2

abbrev pub decreases-vain_pieces-loop-rest : goal.decreases-vain_pieces-loop-rest
decreases-vain_pieces-loop-rest l = node_count (shape_of l.rest)

-- what is known is told of some part, behind which the rest tries and reaches what the node does
abbrev pub invariant-vain_pieces-loop-rest : goal.invariant-vain_pieces-loop-rest
invariant-vain_pieces-loop-rest l = record {
  tells : (part : AnyContext → Way → List Mark) → IsVainBy l.context part l.c l.at_start l.fn.first
      → (before : AnyContext → Way → List Mark) × (IsVainBy l.context before l.c l.at_start l.known
      × ((x : AnyContext) (w : Way) → followed (part x w) (visits x (shape_of l.fn.node)) ≡ followed (before x w) (visits x (shape_of l.rest))));
  within : node_count (shape_of l.rest) ≤ node_count (shape_of l.fn.node);
}
