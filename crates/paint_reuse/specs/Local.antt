-- What the lines that a painting looks at tell of it, by some rules.
use Rattle.std.specs.Prelude.{◌≤◌, ℕ, List, length}
use Rattle.match_rules.specs.Ways.{Text}
use Rattle.paint_rules.specs.Rules.{Rules}
use Rattle.paint_rules.specs.States.{State}
use Rattle.paint_shift.specs.AboutLine.{LookAbout}
use Rattle.paint_shift.specs.Change.{Leaves}

-- a painting looks about its line, and a change leaves the lines that looked at none of it
pub record IsLocal (r : Rules) : Type 0 where
  pub about : LookAbout r
  pub leaves : (t : Text) (first end : ℕ) (new : List (List ℕ)) (before : State) →
      first ≤ end → end ≤ length t → Leaves r t first end new before
