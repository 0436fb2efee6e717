-- Folds of which some go on: what they will be.
use Rattle.std.specs.Prelude.{◌≡◌, ℕ, zero, suc, ◌+◌, ◌-◌, List, [], ◌∷◌, ◌++◌}
use Rattle.syn_folds.specs.declared.stretches.Fold.{Fold}
use Rattle.syn_folds.specs.Folds.{begun_at, stretch}

-- the folds, of which the one at a place has this last line
abbrev pub with_last : List Fold → ℕ → ℕ → List Fold
with_last [] place last = []
with_last (f ∷ folds) zero last = record f { last = last } ∷ folds
with_last (f ∷ folds) (suc place) last = f ∷ with_last folds place last

-- The folds when all have ended, of which those at some places go on at a line: the first of these has this level, each
-- further one the next. These are the levels of the lines from that one on.
abbrev pub ended : ℕ → List ℕ → ℕ → List ℕ → List Fold → List Fold
ended line levels level [] folds = folds
ended line levels level (place ∷ places) folds =
    with_last (ended line levels (suc level) places folds) place (line + stretch level levels - 1)

-- those that go on from a level on have ended before a line: where that line doesn't reach it, all come to the same
abbrev pub HaveEnded : ℕ → ℕ → List ℕ → List Fold → List ℕ → List Fold → Type 0
HaveEnded line level places folds left kept =
    (levels : List ℕ) → stretch level levels ≡ 0 → ended line levels 1 left kept ≡ ended line levels 1 places folds

-- those of the levels behind one, up to another, have begun at a line
abbrev pub HaveBegun : ℕ → ℕ → ℕ → List ℕ → List Fold → List ℕ → List Fold → Type 0
HaveBegun line before level places folds now more =
    (levels : List ℕ) →
    ended line levels 1 now more ≡ ended line levels 1 places folds ++ begun_at line before level levels
