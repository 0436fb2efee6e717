-- A node in place of another: with it a pattern tries and reaches the same, in the same order, and has
-- the same first atoms.
use Rattle.std.specs.Prelude.{◌≡◌}
use Rattle.vim_pattern.specs.GroupNumbers.{HasNumbers}
use Rattle.vim_pattern.specs.Shape.{Shape}
use Rattle.match_rules.specs.Ways.{Context, Way}
use Rattle.match_rules.specs.Visits.{visits}
use Rattle.pattern_screens.specs.FirstAtoms.{first_atoms}

pub record StandsFor (plain node : Shape) : Type 0 where
  pub same : (x : Context) (w : Way) → visits x plain w ≡ visits x node w
  pub numbers : HasNumbers node → HasNumbers plain
  pub first : first_atoms plain ≡ first_atoms node
