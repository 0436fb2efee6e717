-- Where a region ends in a line (Vim's help, :syn-pattern, skip and end). A search visits columns from
-- its place on; the region ends at the first of them that has an end.
use Rattle.std.specs.Prelude.{◌<◌, ◌≤◌, ℕ, suc, length, reverse, Option, Some, None}
use Rattle.match_rules.specs.Ways.{line_at}
use Rattle.syntax_set.specs.declared.item.ItemKind.{ItemKind}
use Rattle.paint_rules.specs.declared.RegionEnd.{RegionEnd}
use Rattle.paint_rules.specs.Painted.{Painted, first_found}
use Rattle.paint_rules.specs.Rules.{Cause, item_of}
use Rattle.paint_rules.specs.EndInLine.{Search, NoSkip, SkipTo, skip_of, ends_of, skip_at, end_at}
use Rattle.paint_rules.specs.EndInLine.{end_in_line}
use Rattle.paint_laws.specs.Outcomes.{Gives}

abbrev pub kind_of : Search → ItemKind
kind_of s = (item_of s.rules.items s.item).kind

-- the line's end is a column too, its last one
abbrev pub last_column : Search → ℕ
last_column s = length (line_at s.text s.from.line)

-- no skip matches at a column
abbrev pub IsUnskipped : Search → ℕ → Type 0
IsUnskipped s c = Gives (skip_at s (skip_of (kind_of s)) c) NoSkip

-- the end that the end patterns make at a column, the last written first
abbrev pub end_made_at : Search → ℕ → Painted Cause (Option RegionEnd)
end_made_at s c = first_found (end_at s c) (reverse (ends_of (kind_of s)))

-- from a column the search goes on at another: where a skip leads, or one on, where there is neither
-- a skip nor an end
pub data GoesOn (s : Search) (c : ℕ) : ℕ → Type 0 where
  behind_a_skip : {d : ℕ} → Gives (skip_at s (skip_of (kind_of s)) c) (SkipTo d) → GoesOn s c d
  one_on : IsUnskipped s c → Gives (end_made_at s c) None → GoesOn s c (suc c)

-- the columns that a search visits
pub data IsVisited (s : Search) : ℕ → Type 0 where
  at_first : IsVisited s s.from.col
  at_next : {c d : ℕ} → IsVisited s c → c ≤ last_column s → GoesOn s c d → IsVisited s d

-- a visited column has an end. Behind it the search doesn't go on, so it is the first that has one
pub record HasEnd (s : Search) (c : ℕ) (end : RegionEnd) : Type 0 where
  pub visited : IsVisited s c
  pub within : c ≤ last_column s
  pub unskipped : IsUnskipped s c
  pub made : Gives (end_made_at s c) (Some end)

-- a search goes from left to right
abbrev pub SearchesGoRight : Type 0
SearchesGoRight = (s : Search) (c d : ℕ) → GoesOn s c d → c < d

-- the law: the end in a line is that of a visited column
abbrev pub EndsStandAtColumns : Type 0
EndsStandAtColumns =
    (s : Search) (end : RegionEnd) → Gives (end_in_line s) (Some end) →
    (c : ℕ) × HasEnd s c end

-- and the end of a visited column is the end in the line
abbrev pub ColumnsEndRegions : Type 0
ColumnsEndRegions =
    (s : Search) (c : ℕ) (end : RegionEnd) → s.from.line < length s.text → HasEnd s c end →
    Gives (end_in_line s) (Some end)
