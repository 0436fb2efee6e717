-- The view of lines at a level: each longest run of two or more lines above it is one row, each other line is its own.
use Rattle.std.specs.Prelude.{ℕ, suc, ◌+◌, ◌-◌, Bool, true, false, ◌&&◌, nat_lt, List, [], ◌∷◌, if◌then◌else◌}
use Rattle.syn_folds.specs.declared.rows.Row.{Row}
use Rattle.syn_folds.specs.declared.rows.Row.TheVariants.{Line, Closed}
use Rattle.syn_folds.specs.Folds.{stretch}

-- the row that begins at a line, where a run of so many lines begins there, or none
abbrev pub row_of : ℕ → ℕ → Row
row_of line count = if nat_lt 1 count then Closed line (line + count - 1) else Line line

-- the rows that begin at a line or behind it: a line above the level stands in the row of the line before, if that
-- one is above it too
abbrev pub rows_from : ℕ → Bool → ℕ → List ℕ → List Row
rows_from close in_run line [] = []
rows_from close in_run line (level ∷ levels) =
    if in_run && nat_lt close level then rows_from close true (suc line) levels
    else row_of line (stretch (suc close) (level ∷ levels)) ∷ rows_from close (nat_lt close level) (suc line) levels

abbrev pub view_of : ℕ → List ℕ → List Row
view_of close levels = rows_from close false 0 levels
