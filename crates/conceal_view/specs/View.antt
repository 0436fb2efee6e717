-- What is seen of a painted text where marked characters are concealed (Vim's help, 'conceallevel').
use Rattle.std.specs.Prelude.{◌≡◌, ℕ, ◌+◌, Bool, true, false, nat_eq, List, [], ◌∷◌, ◌++◌, map, find, Option, Some, None, slice_get, unwrap_or, if◌then◌else◌}
use Rattle.std.specs.Option.{option_map, option_and_then}
use Rattle.syn_base.specs.declared.places.GroupId.{GroupId}
use Rattle.syn_base.specs.declared.places.ItemId.{ItemId}
use Rattle.syn_base.specs.declared.places.Span.{Span}
use Rattle.syntax_set.specs.declared.added_item.AddedItem.{AddedItem}
use Rattle.conceal_view.specs.declared.marks.Mark.{Mark}
use Rattle.conceal_view.specs.Cells.{Cell, SeenLine, cells_of, line_of, same_group}

-- What stands in place of a block, for each group whose characters are concealed: a character or
-- nothing. Other groups have none.
abbrev pub Blocks : Type 0
Blocks = GroupId → Option (Option ℕ)

abbrev pub block_of : Blocks → Option GroupId → Option (Option ℕ)
block_of blocks None = None
block_of blocks (Some g) = blocks g

-- whether a character and the one before it show the same
abbrev pub shows_same : Option GroupId → Option GroupId → Bool
shows_same (Some g) (Some h) = same_group g h
shows_same None None = true
shows_same _ _ = false

-- a put character, if there is one, in the group that covers
abbrev pub put_cells : GroupId → Option ℕ → List Cell
put_cells cover None = []
put_cells cover (Some x) = record { char = x; group = Some cover } ∷ []

-- what is seen of a character behind one that shows this: itself, or where a block begins what stands
-- in its place, or nothing in a block
abbrev pub seen_of : Blocks → GroupId → Option GroupId → Cell → List Cell
seen_of blocks cover before cell =
    elim (block_of blocks cell.group) [
      | None ↦ cell ∷ []
      | Some put ↦ elim (shows_same before cell.group) [ true ↦ [] | false ↦ put_cells cover put ]
    ]

abbrev pub seen_from : Blocks → GroupId → Option GroupId → List Cell → List Cell
seen_from blocks cover before [] = []
seen_from blocks cover before (cell ∷ cells) =
    seen_of blocks cover before cell ++ seen_from blocks cover cell.group cells

-- the view of a line, before whose first character nothing was shown
abbrev pub seen_line : Blocks → GroupId → List ℕ → List Span → SeenLine
seen_line blocks cover line spans = line_of (seen_from blocks cover None (cells_of line spans))

-- the views of the lines of a text, with the spans of each
abbrev pub seen_lines : Blocks → GroupId → List (List ℕ) → List (List Span) → List SeenLine
seen_lines blocks cover [] painting = []
seen_lines blocks cover (line ∷ lines) [] = []
seen_lines blocks cover (line ∷ lines) (spans ∷ painting) =
    seen_line blocks cover line spans ∷ seen_lines blocks cover lines painting

-- the lines of a view, and the spans of each
abbrev pub lines_in : List SeenLine → List (List ℕ)
lines_in view = map (λ line. line.chars) view

abbrev pub spans_in : List SeenLine → List (List Span)
spans_in view = map (λ line. line.spans) view

-- Marked groups

-- the mark that a group is
abbrev pub mark_of : List Mark → GroupId → Option Mark
mark_of marks g = find (λ mark. same_group mark.number g) marks

-- marks are numbered in order from a number on
abbrev pub AreNumbered : ℕ → List Mark → Type 0
AreNumbered first marks = (i : ℕ) (mark : Mark) → slice_get marks i ≡ Some mark → mark.number.0 ≡ first + i

-- the character of an item's blocks (`cchar`)
abbrev pub cchar_of : List AddedItem → ItemId → Option ℕ
cchar_of items id = option_and_then (λ added. added.item.cchar) (slice_get items id.0)

-- what stands in place of a block whose item has this character, or none: at level 1 a space where it
-- has none, at level 2 nothing; at level 3 nothing in any case
abbrev pub put_at : ℕ → Option ℕ → Option ℕ
put_at level cchar =
    if nat_eq level 1 then Some (unwrap_or cchar 32)
    else if nat_eq level 2 then cchar else None

abbrev pub block_at : List AddedItem → ℕ → Mark → Option ℕ
block_at items level mark = put_at level (cchar_of items mark.item)

-- each mark's characters are concealed, and no others
abbrev pub blocks_at : List AddedItem → List Mark → ℕ → Blocks
blocks_at items marks level g = option_map (block_at items level) (mark_of marks g)

-- the view of a painting
abbrev pub view_of : List AddedItem → List Mark → GroupId → ℕ → List (List ℕ) → List (List Span) → List SeenLine
view_of items marks cover level lines painting = seen_lines (blocks_at items marks level) cover lines painting
