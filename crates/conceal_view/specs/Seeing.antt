-- What is seen of a line from left to right.
use Rattle.std.specs.Prelude.{◌≡◌, ℕ, ◌-◌, nat_lt, Bool, false, List, [], ◌∷◌, ◌++◌, fold, map, Option, None, slice_get, if◌then◌else◌}
use Rattle.syn_base.specs.declared.places.GroupId.{GroupId}
use Rattle.syn_base.specs.declared.places.Span.{Span}
use Rattle.conceal_view.specs.declared.sight.Sight.{Sight}
use Rattle.conceal_view.specs.Cells.{Cell, SeenLine, goes_on, with_cell}
use Rattle.conceal_view.specs.View.{Blocks, seen_from}

-- a line with more characters
abbrev pub with_cells : SeenLine → List Cell → SeenLine
with_cells line cells = fold with_cell line cells

abbrev pub cell_of : Option GroupId → ℕ → Cell
cell_of group x = record { char = x; group = group }

-- characters that show one group, or none
abbrev pub run_of : Option GroupId → List ℕ → List Cell
run_of group chars = map (cell_of group) chars

-- what stands in place of blocks, for the marks in order
abbrev pub blocks_by : List (Option ℕ) → Blocks
blocks_by puts g = if nat_lt g.0 20000 then None else slice_get puts (g.0 - 20000)

-- what will be seen of a line, with these characters to come
abbrev pub seen_at_last : Blocks → GroupId → Sight → List Cell → SeenLine
seen_at_last blocks cover sight cells = with_cells sight.line (seen_from blocks cover sight.before cells)

-- a run of a group, or of none, was seen
abbrev pub HasSeen : Blocks → GroupId → Option GroupId → List ℕ → Sight → Sight → Type 0
HasSeen blocks cover group chars before after =
    (cells : List Cell) →
    seen_at_last blocks cover after cells ≡ seen_at_last blocks cover before (run_of group chars ++ cells)

-- what is put where a block begins, or nothing where it goes on
abbrev pub put_behind : Bool → Option ℕ → Option ℕ
put_behind goes_on put = if goes_on then None else put

-- whether a run goes on with the last of some spans
abbrev pub last_goes_on : List Span → ℕ → GroupId → Bool
last_goes_on [] first g = false
last_goes_on (span ∷ []) first g = goes_on span first g
last_goes_on (span ∷ next ∷ spans) first g = last_goes_on (next ∷ spans) first g
