-- What lines show by name: two syntaxes may number the same groups otherwise. Of a line that two of them
-- paint, one shows otherwise where a column, the name of a group or the name of a final group differs.
use Rattle.std.specs.Prelude.{◌≢◌, ◌<◌, ◌↔◌, ℕ, ◌==◌, ◌&&◌, Bool, not, List, [], length, get_or, filter, Contains, bytes_eq}
use Rattle.std.specs.List.{range_with_len}
use Rattle.std.specs.List.Sorted.{IsStrictlyIncreasing}
use Rattle.std.specs.Cmp.Lexicographic.{pointwise}

-- what a span shows: its first and last column, the name of its group, and the name of the group that
-- its links lead to
pub record Shown : Type 0 where
  pub first : ℕ
  pub last : ℕ
  pub name : List ℕ
  pub final_name : List ℕ

-- ---- what differs

abbrev pub same_shown : Shown → Shown → Bool
same_shown one other =
    (one.first == other.first)
    && ((one.last == other.last) && (bytes_eq one.name other.name && bytes_eq one.final_name other.final_name))

-- whether two lines show the same: each span as the other line's
abbrev pub show_same : List Shown → List Shown → Bool
show_same = pointwise same_shown

-- of two paintings of a text: whether this line shows otherwise in the second one
abbrev pub shows_otherwise : List (List Shown) → List (List Shown) → ℕ → Bool
shows_otherwise before after line = not (show_same (get_or before line []) (get_or after line []))

-- the lines that show otherwise, least first
abbrev pub lines_shown_otherwise : List (List Shown) → List (List Shown) → List ℕ
lines_shown_otherwise before after = filter (shows_otherwise before after) (range_with_len 0 (length after))

-- in ascending order exactly the lines for which the two lists of what their spans show differ
pub record AreLinesShownOtherwise (before after : List (List Shown)) (lines : List ℕ) : Type 0 where
  pub ascending : IsStrictlyIncreasing lines
  pub exact : (line : ℕ) → Contains lines line ↔ ((line < length after) × (get_or before line [] ≢ get_or after line []))
