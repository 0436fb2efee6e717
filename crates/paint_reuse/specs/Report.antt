-- What is told of a change: the new lines, and those that show other spans than before.
use Rattle.std.specs.Prelude.{◌≢◌, ◌<◌, ◌↔◌, ⊤, ℕ, suc, ◌==◌, ◌&&◌, Bool, true, not, List, [], ◌∷◌, length, get_or, Contains, Option, Some, None, if◌then◌else◌}
use Rattle.std.specs.Cmp.Lexicographic.{pointwise}
use Rattle.std.specs.List.Sorted.{IsStrictlyIncreasing}
use Rattle.syn_base.specs.declared.places.Span.{Span}
use Rattle.paint_reuse.specs.declared.change.Change.{Change}
use Rattle.paint_reuse.specs.Change.{old_line}

abbrev pub same_span : Span → Span → Bool
same_span a b = (a.first == b.first) && ((a.last == b.last) && (a.group.0 == b.group.0))

-- whether two lines show the same: each span as the other line's
abbrev pub same_spans : List Span → List Span → Bool
same_spans = pointwise same_span

-- these spans are those of a new line, or other ones than the old line showed
abbrev pub differs : List (List Span) → Option ℕ → List Span → Bool
differs old None spans = true
differs old (Some j) spans = not (same_spans spans (get_or old j []))

-- of the spans of the changed text's lines, which are those from line k on, the lines that are told
abbrev pub report_from : List (List Span) → Change → ℕ → List (List Span) → List ℕ
report_from old change k [] = []
report_from old change k (spans ∷ rest) =
    let later = report_from old change (suc k) rest in
    if differs old (old_line change k) spans then k ∷ later else later

-- the lines that are told, least first, as the changed text counts them
abbrev pub report : List (List Span) → List (List Span) → Change → List ℕ
report old new change = report_from old change 0 new

-- a new line, or one that shows other spans than the line that it was
abbrev pub IsChanged : List (List Span) → Option ℕ → List Span → Type 0
IsChanged old None spans = ⊤
IsChanged old (Some j) spans = spans ≢ get_or old j []

-- in ascending order exactly the lines that are new or show other spans
pub record IsReport (old new : List (List Span)) (change : Change) (lines : List ℕ) : Type 0 where
  pub ascending : IsStrictlyIncreasing lines
  pub exact : (k : ℕ) → Contains lines k ↔ ((k < length new) × IsChanged old (old_line change k) (get_or new k []))
