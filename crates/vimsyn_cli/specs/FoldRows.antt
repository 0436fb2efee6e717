-- The rows of a view belong to a text.
use Rattle.std.specs.Prelude.{ℕ, ◌<◌}
use Rattle.syn_folds.specs.declared.rows.Row.{Row}
use Rattle.syn_folds.specs.declared.rows.Row.TheVariants.{Line, Closed}

-- its lines are among so many
abbrev pub RowStands : ℕ → Row → Type 0
RowStands count (Line line) = line < count
RowStands count (Closed first last) = (first < last) × (last < count)
