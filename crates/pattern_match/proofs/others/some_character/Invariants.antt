use Rattle.vim_pattern.specs.Parted.{node_count}
use Rattle.pattern_match.specs.Steps.{shape_of}
use Rattle.pattern_match.proofs.others.some_character.Given as goal

abbrev pub decreases-loop-rest : goal.decreases-loop-rest
decreases-loop-rest l = node_count (shape_of l.rest)
