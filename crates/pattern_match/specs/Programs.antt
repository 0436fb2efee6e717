-- What is kept of a pattern that is ready.
use Rattle.std.specs.Prelude.{◌≡◌}
use Rattle.vim_pattern.specs.GroupNumbers.{HasNumbers}
use Rattle.pattern_screens.specs.FirstAtoms.{first_cost}
use Rattle.pattern_match.specs.declared.programs.Program.{Program}
use Rattle.pattern_match.specs.StandsFor.{StandsFor}
use Rattle.pattern_match.specs.Steps.{shape_of}

pub record IsReady (program : Program) : Type 0 where
  pub numbers : HasNumbers program.tree.value.node
  pub stands : StandsFor (shape_of program.step) program.tree.value.node
  pub case : program.case ≡ program.tree.value.case
  pub screen : program.screen_cost ≡ first_cost program.tree.value.node
