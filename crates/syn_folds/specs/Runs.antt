-- Runs of lines above the level of a view, one of which goes on.
use Rattle.std.specs.Prelude.{ℕ, nat_lt, List, [], ◌∷◌, if◌then◌else◌}
use Rattle.syn_folds.specs.declared.rows.Row.{Row}
use Rattle.syn_folds.specs.View.{row_of}

-- the row of a run of so many lines, if there are any
abbrev pub run_rows : ℕ → ℕ → List Row
run_rows first count = if nat_lt 0 count then row_of first count ∷ [] else []
