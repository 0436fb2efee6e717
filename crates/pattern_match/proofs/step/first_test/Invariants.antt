use Rattle.std.proofs.Common.{◌≡◌}
use Rattle.vim_pattern.specs.Parted.{node_count}
use Rattle.pattern_match.specs.FirstAtom.{first_atom}
use Rattle.pattern_match.specs.Steps.{shape_of}
use Rattle.pattern_match.proofs.step.first_test.Given as goal

abbrev pub invariant-loop-rest : goal.invariant-loop-rest
invariant-loop-rest l = first_atom (shape_of l.rest) ≡ first_atom (shape_of l.fn.step)

abbrev pub decreases-loop-rest : goal.decreases-loop-rest
decreases-loop-rest l = node_count (shape_of l.rest)
