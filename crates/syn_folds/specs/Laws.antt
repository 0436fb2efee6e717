-- Laws of folds and views in the subject's own terms.
use Rattle.std.specs.Prelude.{◌≡◌, ◌<◌, ◌≤◌, ◌+◌, ◌-◌, ◌⊎◌, ◌↔◌, ℕ, suc, List, [], ◌∷◌, length, slice_index, Contains, flat_map}
use Rattle.std.specs.List.{AllPairs, range_with_len}
use Rattle.syn_folds.specs.declared.rows.Row.{Row}
use Rattle.syn_folds.specs.declared.rows.Row.TheVariants.{Line, Closed}
use Rattle.syn_folds.specs.declared.stretches.Fold.{Fold}
use Rattle.syn_folds.specs.Folds.{folds_of}
use Rattle.syn_folds.specs.View.{view_of}

-- all lines from the first to the last have at least the level of the fold, and those just outside have not
pub record IsFold (levels : List ℕ) (f : Fold) : Type 0 where
  pub is_a_level : 1 ≤ f.level
  pub has_lines : f.first ≤ f.last
  pub stands : f.last < length levels
  pub reaches : (line : ℕ) → f.first ≤ line → line ≤ f.last → f.level ≤ slice_index levels line
  pub before : 0 < f.first → slice_index levels (f.first - 1) < f.level
  pub after : f.last + 1 < length levels → slice_index levels (f.last + 1) < f.level

-- the folds are exactly these
abbrev pub FoldsAreTheStretches : Type 0
FoldsAreTheStretches = (levels : List ℕ) (f : Fold) → Contains (folds_of levels) f ↔ IsFold levels f

-- its first line is further up, or its level is lower
abbrev pub IsBefore : Fold → Fold → Type 0
IsBefore a b = (a.first < b.first) ⊎ ((a.first ≡ b.first) × (a.level < b.level))

-- they stand in this order, each once
abbrev pub FoldsStandInOrder : Type 0
FoldsStandInOrder = (levels : List ℕ) → AllPairs IsBefore (folds_of levels)

-- the lines of a row
abbrev pub lines_of : Row → List ℕ
lines_of (Line line) = line ∷ []
lines_of (Closed first last) = range_with_len first (last + 1 - first)

-- the rows have each line once, in order
abbrev pub RowsCoverTheLines : Type 0
RowsCoverTheLines =
    (close : ℕ) (levels : List ℕ) → flat_map lines_of (view_of close levels) ≡ range_with_len 0 (length levels)

-- the closed rows are the folds of the level above, of two lines or more
abbrev pub LongRunsAreClosed : Type 0
LongRunsAreClosed =
    (close : ℕ) (levels : List ℕ) (first last : ℕ) → Contains (view_of close levels) (Closed first last)
    ↔ ((first < last) × IsFold levels (record { first = first; last = last; level = suc close }))
