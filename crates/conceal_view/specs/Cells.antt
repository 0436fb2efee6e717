-- A painted line as its characters, each with the group that it shows, and back.
use Rattle.std.specs.Prelude.{ℕ, suc, Bool, true, false, not, ◌&&◌, nat_eq, nat_lt, List, [], ◌∷◌, ◌++◌, length, fold, Option, Some, None}
use Rattle.syn_base.specs.declared.places.GroupId.{GroupId}
use Rattle.syn_base.specs.declared.places.Span.{Span}

-- a character with the group that it shows, or none
pub record Cell : Type 0 where
  pub char : ℕ
  pub group : Option GroupId

abbrev pub same_group : GroupId → GroupId → Bool
same_group g h = nat_eq g.0 h.0

abbrev pub has_column : Span → ℕ → Bool
has_column span c = not (nat_lt c span.first) && not (nat_lt span.last c)

-- the group that spans give the character at a column
abbrev pub group_at : List Span → ℕ → Option GroupId
group_at [] c = None
group_at (span ∷ spans) c = elim (has_column span c) [ true ↦ Some span.group | false ↦ group_at spans c ]

-- characters from a column on, with the groups that the spans of their line give them
abbrev pub cells_from : List Span → ℕ → List ℕ → List Cell
cells_from spans c [] = []
cells_from spans c (x ∷ line) = record { char = x; group = group_at spans c } ∷ cells_from spans (suc c) line

abbrev pub cells_of : List ℕ → List Span → List Cell
cells_of line spans = cells_from spans 0 line

-- a line with its spans
pub record SeenLine : Type 0 where
  pub chars : List ℕ
  pub spans : List Span

-- whether a run of a group that begins at a column goes on with a span
abbrev pub goes_on : Span → ℕ → GroupId → Bool
goes_on span first g = nat_eq first (suc span.last) && same_group span.group g

-- spans with a run of one group behind them: it is a span of its own, unless it goes on with the last one
abbrev pub with_run : List Span → ℕ → ℕ → GroupId → List Span
with_run [] first last g = record { first = first; last = last; group = g } ∷ []
with_run (span ∷ []) first last g =
    elim (goes_on span first g) [
      | true ↦ record span { last = last } ∷ []
      | false ↦ span ∷ record { first = first; last = last; group = g } ∷ []
    ]
with_run (span ∷ next ∷ spans) first last g = span ∷ with_run (next ∷ spans) first last g

abbrev pub with_character : List Span → ℕ → Option GroupId → List Span
with_character spans c None = spans
with_character spans c (Some g) = with_run spans c c g

-- a line with one more character
abbrev pub with_cell : SeenLine → Cell → SeenLine
with_cell line cell = record {
  chars = line.chars ++ cell.char ∷ [];
  spans = with_character line.spans (length line.chars) cell.group;
}

abbrev pub no_characters : SeenLine
no_characters = record { chars = []; spans = [] }

-- the line that has these characters; its spans are their longest runs of one group
abbrev pub line_of : List Cell → SeenLine
line_of cells = fold with_cell no_characters cells
