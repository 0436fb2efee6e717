use Rattle.std.proofs.Common.{◌≡◌, ◌≤◌}
use Rattle.vim_pattern.specs.Parted.{node_count}
use Rattle.pattern_screens.specs.FirstAtoms.{first_passes}
use Rattle.pattern_match.specs.Steps.{shape_of}
use Rattle.pattern_match.proofs.screens.+some_first_fits.Given as goal

abbrev pub decreases-some_first_fits : goal.decreases-some_first_fits
decreases-some_first_fits l = node_count (shape_of l.step.now)

abbrev pub decreases-loop-rest : goal.decreases-loop-rest
decreases-loop-rest l = node_count (shape_of l.rest)

-- what is left passes where the whole does
abbrev pub invariant-loop-rest : goal.invariant-loop-rest
invariant-loop-rest l = record {
  same : first_passes l.sets l.ignore l.next (shape_of l.rest) ≡ first_passes l.sets l.ignore l.next (shape_of l.fn.step);
  within : node_count (shape_of l.rest) ≤ node_count (shape_of l.fn.step);
}
