-- Views of a few painted lines, worked by hand.
use Rattle.std.proofs.Common.{◌≡◌, ℕ, ◌-◌, true, List, [], ◌∷◌, refl}
use Rattle.std.specs.Prelude.{Some, codes}
use Rattle.syn_base.specs.declared.places.GroupId.{GroupId}
use Rattle.syn_base.specs.declared.places.Span.{Span}
use Rattle.syntax_set.specs.Items.{plain_item}
use Rattle.syntax_set.specs.declared.added_item.AddedItem.{AddedItem}
use Rattle.conceal_view.specs.declared.marks.Mark.{Mark}
use Rattle.conceal_view.specs.Cells.{SeenLine}
use Rattle.conceal_view.specs.View.{view_of}

abbrev group : ℕ → GroupId
group n = record { 0 = n }

-- an item whose blocks have the character α, and one whose blocks have none
abbrev items : List AddedItem
items =
    record { item = record (plain_item (group 1)) { conceal = true; cchar = Some 945 }; live = true }
    ∷ record { item = record (plain_item (group 2)) { conceal = true; concealends = true }; live = true }
    ∷ []

abbrev mark : ℕ → ℕ → ℕ → Mark
mark number item shown = record { number = group number; item = record { 0 = item }; shown = group shown }

-- the bodies of both, and two matchgroups of the second
abbrev marks : List Mark
marks = mark 20000 0 1 ∷ mark 20001 1 2 ∷ mark 20002 1 3 ∷ mark 20003 1 4 ∷ []

-- columns from 1, as they are printed
abbrev span : ℕ → ℕ → ℕ → Span
span first last g = record { first = first - 1; last = last - 1; group = group g }

-- the view of one line; what is put shows group 9
abbrev seen : ℕ → List ℕ → List Span → List SeenLine
seen level line spans = view_of items marks (group 9) level (line ∷ []) (spans ∷ [])

abbrev is : List ℕ → List Span → List SeenLine
is chars spans = record { chars = chars; spans = spans } ∷ []

-- syn match Sym "\\alpha" conceal cchar=α: `x\alpha y`
a_block_has_its_character : seen 2 (codes "x\\alpha y") (span 2 7 20000 ∷ []) ≡ is (120 ∷ 945 ∷ 32 ∷ 121 ∷ []) (span 2 2 9 ∷ [])
a_block_has_its_character = refl

a_character_stands_at_level_1_too : seen 1 (codes "x\\alpha y") (span 2 7 20000 ∷ []) ≡ is (120 ∷ 945 ∷ 32 ∷ 121 ∷ []) (span 2 2 9 ∷ [])
a_character_stands_at_level_1_too = refl

no_character_stands_at_level_3 : seen 3 (codes "x\\alpha y") (span 2 7 20000 ∷ []) ≡ is (codes "x y") []
no_character_stands_at_level_3 = refl

-- syn region B matchgroup=Q start="\*" end="\*" concealends: `a*b*c`
ends_are_hidden : seen 2 (codes "a*b*c") (span 2 2 20002 ∷ span 3 3 2 ∷ span 4 4 20002 ∷ []) ≡ is (codes "abc") (span 2 2 2 ∷ [])
ends_are_hidden = refl

a_space_stands_for_ends : seen 1 (codes "a*b*c") (span 2 2 20002 ∷ span 3 3 2 ∷ span 4 4 20002 ∷ [])
    ≡ is (codes "a b c") (span 2 2 9 ∷ span 3 3 2 ∷ span 4 4 9 ∷ [])
a_space_stands_for_ends = refl

-- two areas with one matchgroup and nothing between are one block
touching_areas_are_one_block : seen 1 (codes "**") (span 1 1 20002 ∷ span 2 2 20002 ∷ []) ≡ is (codes " ") (span 1 1 9 ∷ [])
touching_areas_are_one_block = refl

-- areas of two matchgroups are two, and their characters have one span
areas_of_two_groups_are_two_blocks : seen 1 (codes "**") (span 1 1 20002 ∷ span 2 2 20003 ∷ []) ≡ is (codes "  ") (span 1 2 9 ∷ [])
areas_of_two_groups_are_two_blocks = refl

-- syn match A "a" conceal cchar=α / syn match B "b" conceal: `ab`
neighbours_put_a_character_each : seen 1 (codes "ab") (span 1 1 20000 ∷ span 2 2 20001 ∷ []) ≡ is (945 ∷ 32 ∷ []) (span 1 2 9 ∷ [])
neighbours_put_a_character_each = refl

one_of_them_at_level_2 : seen 2 (codes "ab") (span 1 1 20000 ∷ span 2 2 20001 ∷ []) ≡ is (945 ∷ []) (span 1 1 9 ∷ [])
one_of_them_at_level_2 = refl

-- a block goes on where its item does: in `aab` the two `a` are one block
equal_neighbours_are_one_block : seen 2 (codes "aab") (span 1 1 20000 ∷ span 2 2 20000 ∷ []) ≡ is (945 ∷ 98 ∷ []) (span 1 1 9 ∷ [])
equal_neighbours_are_one_block = refl

-- a contained item that shows through ends a block, and another one begins behind it
a_contained_item_parts_a_block : seen 2 (codes "axa") (span 1 1 20000 ∷ span 2 2 5 ∷ span 3 3 20000 ∷ [])
    ≡ is (945 ∷ 120 ∷ 945 ∷ []) (span 1 1 9 ∷ span 2 2 5 ∷ span 3 3 9 ∷ [])
a_contained_item_parts_a_block = refl

-- and so does a character that shows none
a_gap_parts_a_block : seen 1 (codes "a a") (span 1 1 20001 ∷ span 3 3 20001 ∷ []) ≡ is (codes "   ") (span 1 1 9 ∷ span 3 3 9 ∷ [])
a_gap_parts_a_block = refl

-- where a block is hidden, what stands on its sides may be one run
sides_of_a_hidden_block_join : seen 3 (codes "x--y") (span 1 1 5 ∷ span 2 3 20000 ∷ span 4 4 5 ∷ []) ≡ is (codes "xy") (span 1 2 5 ∷ [])
sides_of_a_hidden_block_join = refl

-- a put character joins what shows the group that covers
a_put_character_joins_its_group : seen 1 (codes "xa") (span 1 1 9 ∷ span 2 2 20001 ∷ []) ≡ is (codes "x ") (span 1 2 9 ∷ [])
a_put_character_joins_its_group = refl

a_whole_line_is_hidden : seen 3 (codes "ab") (span 1 2 20001 ∷ []) ≡ is [] []
a_whole_line_is_hidden = refl

an_empty_line_is_seen : seen 1 [] [] ≡ is [] []
an_empty_line_is_seen = refl

-- at a line's ends, columns count in the view
columns_count_in_the_view : seen 2 (codes "abcde") (span 1 2 20001 ∷ span 3 3 5 ∷ span 5 5 6 ∷ []) ≡ is (codes "cde") (span 1 1 5 ∷ span 3 3 6 ∷ [])
columns_count_in_the_view = refl

-- a block doesn't go on in the next line
each_line_has_its_blocks : view_of items marks (group 9) 1 (codes "a" ∷ codes "a" ∷ []) ((span 1 1 20001 ∷ []) ∷ (span 1 1 20001 ∷ []) ∷ [])
    ≡ record { chars = codes " "; spans = span 1 1 9 ∷ [] } ∷ record { chars = codes " "; spans = span 1 1 9 ∷ [] } ∷ []
each_line_has_its_blocks = refl

-- a group without a mark is seen as it is
other_groups_are_seen : seen 3 (codes "ab") (span 1 1 19999 ∷ span 2 2 20004 ∷ []) ≡ is (codes "ab") (span 1 1 19999 ∷ span 2 2 20004 ∷ [])
other_groups_are_seen = refl
