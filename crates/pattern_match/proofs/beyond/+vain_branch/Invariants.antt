use Rattle.vim_pattern.specs.Parted.{node_count}
use Rattle.pattern_match.specs.Steps.{shape_of}
use Rattle.pattern_match.proofs.beyond.+vain_branch.Given as goal

abbrev pub decreases-vain_branch : goal.decreases-vain_branch
decreases-vain_branch g l = node_count (shape_of l.step.now)
