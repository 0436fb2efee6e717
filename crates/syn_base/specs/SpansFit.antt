-- Spans that fit their lines: in order, apart from each other and within the line.
use Rattle.std.specs.Prelude.{ℕ, ◌≡◌, ◌<◌, ◌≤◌, ◌+◌, List, [], ◌∷◌, length, Some, slice_get}
use Rattle.syn_base.specs.declared.places.Span.{Span}

-- spans in order, apart from each other, from this column on in a line of this length
abbrev pub IsFromColumn : ℕ → ℕ → List Span → Type 0
IsFromColumn column end [] = column ≤ end
IsFromColumn column end (span ∷ spans) =
    (column ≤ span.first) × (span.first ≤ span.last) × (span.last < end) × IsFromColumn (span.last + 1) end spans

-- each line's spans fit it
abbrev pub FitLines : List (List ℕ) → List (List Span) → Type 0
FitLines lines painting =
    (i : ℕ) (line : List ℕ) (spans : List Span) → Some line ≡ slice_get lines i → Some spans ≡ slice_get painting i
    → IsFromColumn 0 (length line) spans
