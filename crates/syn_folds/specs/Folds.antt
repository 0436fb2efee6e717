-- The folds of lines, by the lines' levels: at each line begins one fold for each level above that of the line before.
use Rattle.std.specs.Prelude.{ℕ, suc, ◌+◌, ◌-◌, nat_le, List, [], ◌∷◌, ◌++◌, map}
use Rattle.std.specs.List.{prefix_len, range_with_len}
use Rattle.syn_folds.specs.declared.stretches.Fold.{Fold}

-- how many of these lines, from the first of them on, have at least this level
abbrev pub stretch : ℕ → List ℕ → ℕ
stretch level levels = prefix_len (nat_le level) levels

-- the fold of a level that begins at a line, which has the first of these levels
abbrev pub fold_at : ℕ → List ℕ → ℕ → Fold
fold_at line levels level = record { first = line; last = line + stretch level levels - 1; level = level }

-- those that begin at a line of this level, where the line before has the level `before`
abbrev pub begun_at : ℕ → ℕ → ℕ → List ℕ → List Fold
begun_at line before level levels = map (fold_at line levels) (range_with_len (before + 1) (level - before))

-- the folds that begin at a line or behind it; these are the levels from that line on
abbrev pub folds_from : ℕ → ℕ → List ℕ → List Fold
folds_from line before [] = []
folds_from line before (level ∷ levels) =
    begun_at line before level (level ∷ levels) ++ folds_from (suc line) level levels

abbrev pub folds_of : List ℕ → List Fold
folds_of levels = folds_from 0 0 levels
