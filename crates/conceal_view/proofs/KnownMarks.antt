-- Marked forms of a few syntaxes, worked by hand.
use Rattle.std.proofs.Common.{◌≡◌, ℕ, true, false, List, [], ◌∷◌, map, refl}
use Rattle.std.specs.Prelude.{Option, Some, None}
use Rattle.syn_base.specs.declared.places.GroupId.{GroupId}
use Rattle.vim_pattern.specs.Tree.{PatternTree}
use Rattle.syntax_set.specs.Items.{plain_item}
use Rattle.syntax_set.specs.declared.added_item.AddedItem.{AddedItem}
use Rattle.syntax_set.specs.declared.item.Entry.{Entry}
use Rattle.syntax_set.specs.declared.item.Entry.TheVariants.{Group, Cluster}
use Rattle.syntax_set.specs.declared.item.GroupList.{GroupList}
use Rattle.syntax_set.specs.declared.item.Item.{Item}
use Rattle.syntax_set.specs.declared.item.ItemKind.TheVariants.{Match, Region}
use Rattle.syntax_set.specs.declared.item.Pattern.{Pattern}
use Rattle.syntax_set.specs.declared.item.Special.{Special}
use Rattle.syntax_set.specs.declared.item.Special.TheVariants.{Plain, AllBut}
use Rattle.conceal_view.specs.declared.marks.Mark.{Mark}
use Rattle.conceal_view.specs.Marks.{marks_of}
use Rattle.conceal_view.specs.Marking.{marked_items, marked_lists, old_groups}

abbrev group : ℕ → GroupId
group n = record { 0 = n }

abbrev mark : ℕ → ℕ → ℕ → Mark
mark number item shown = record { number = group number; item = record { 0 = item }; shown = group shown }

abbrev live : Item → AddedItem
live item = record { item = item; live = true }

abbrev dead : Item → AddedItem
dead item = record { item = item; live = false }

-- an item of a group with `conceal`
abbrev concealed : ℕ → Item
concealed g = record (plain_item (group g)) { conceal = true }

abbrev list_of : Special → List Entry → Option GroupList
list_of special entries = Some (record { special = special; entries = entries })

abbrev pattern : PatternTree → Option GroupId → Pattern
pattern tree matchgroup = record {
  id = record { 0 = 0 };
  tree = tree;
  ms = None;
  me = None;
  hs = None;
  he = None;
  rs = None;
  re = None;
  lc = 0;
  matchgroup = matchgroup;
  excludenl = false;
}

abbrev patterns : PatternTree → List ℕ → List Pattern
patterns tree groups = map (λ g. pattern tree (Some (group g))) groups

-- a region of a group with `concealends`, by the matchgroups of its starts and ends
abbrev region : PatternTree → ℕ → List ℕ → List ℕ → Item
region tree g starts ends = record (plain_item (group g)) {
  kind = Region (patterns tree starts) None (patterns tree ends);
  concealends = true;
}

-- A body: syn match A "a" conceal / syn match B "b" / syn match A "c" conceal

abbrev bodies : List AddedItem
bodies = live (concealed 1) ∷ live (plain_item (group 2)) ∷ live (concealed 1) ∷ []

each_body_has_a_mark : marks_of bodies ≡ mark 20000 0 1 ∷ mark 20001 2 1 ∷ []
each_body_has_a_mark = refl

each_body_shows_its_mark : map (λ (added : AddedItem). added.item.group.0) (marked_items bodies) ≡ 20000 ∷ 2 ∷ 20001 ∷ []
each_body_shows_its_mark = refl

-- marks stand for the group that their items had; other groups, and numbers behind the marks, for themselves
marks_stand_for_groups : map (λ n. (old_groups (marks_of bodies) (group n)).0) (1 ∷ 19999 ∷ 20000 ∷ 20001 ∷ 20002 ∷ []) ≡ 1 ∷ 19999 ∷ 1 ∷ 1 ∷ 20002 ∷ []
marks_stand_for_groups = refl

-- An item that isn't live keeps its group, and its place

abbrev with_dead : List AddedItem
with_dead = dead (concealed 1) ∷ live (concealed 1) ∷ []

a_dead_item_has_no_mark : marks_of with_dead ≡ mark 20000 1 1 ∷ []
a_dead_item_has_no_mark = refl

a_dead_item_stays : marked_items with_dead ≡ dead (concealed 1) ∷ live (record (concealed 1) { group = group 20000 }) ∷ []
a_dead_item_stays = refl

a_dead_region_has_no_marks : (tree : PatternTree) → marks_of (dead (region tree 1 (3 ∷ []) (3 ∷ [])) ∷ []) ≡ []
a_dead_region_has_no_marks tree = refl

-- Areas: syn region A matchgroup=Q start=/a/ end=/b/ concealends

one_mark_for_both_sides : (tree : PatternTree) → marks_of (live (region tree 1 (3 ∷ []) (3 ∷ [])) ∷ []) ≡ mark 20000 0 3 ∷ []
one_mark_for_both_sides tree = refl

both_sides_show_it : (tree : PatternTree) → marked_items (live (region tree 1 (3 ∷ []) (3 ∷ [])) ∷ []) ≡ live (region tree 1 (20000 ∷ []) (20000 ∷ [])) ∷ []
both_sides_show_it tree = refl

-- a matchgroup is one mark of its region, however often it stands there; those of starts come first
marks_of_a_region : (tree : PatternTree) → marks_of (live (region tree 1 (4 ∷ 3 ∷ 4 ∷ []) (5 ∷ 3 ∷ [])) ∷ []) ≡ mark 20000 0 4 ∷ mark 20001 0 3 ∷ mark 20002 0 5 ∷ []
marks_of_a_region tree = refl

areas_of_a_region : (tree : PatternTree)
    → marked_items (live (region tree 1 (4 ∷ 3 ∷ 4 ∷ []) (5 ∷ 3 ∷ [])) ∷ []) ≡ live (region tree 1 (20000 ∷ 20001 ∷ 20000 ∷ []) (20002 ∷ 20001 ∷ [])) ∷ []
areas_of_a_region tree = refl

-- two regions never share a mark, nor do a body and its areas, even of one group
two_regions : (tree : PatternTree)
    → marks_of (live (region tree 3 (3 ∷ []) (3 ∷ [])) ∷ live (record (region tree 3 (3 ∷ []) []) { conceal = true }) ∷ [])
    ≡ mark 20000 0 3 ∷ mark 20001 1 3 ∷ mark 20002 1 3 ∷ []
two_regions tree = refl

a_body_and_its_areas : (tree : PatternTree)
    → marked_items (live (record (region tree 3 (3 ∷ []) []) { conceal = true }) ∷ [])
    ≡ live (record (region tree 20000 (20001 ∷ []) []) { conceal = true }) ∷ []
a_body_and_its_areas tree = refl

-- sides without a matchgroup have no areas
no_area_without_a_matchgroup : (tree : PatternTree)
    → marks_of (live (record (plain_item (group 1)) { kind = Region (pattern tree None ∷ []) None (pattern tree None ∷ []); concealends = true }) ∷ []) ≡ []
no_area_without_a_matchgroup tree = refl

-- without `concealends` areas show their matchgroup, and so does the text of `skip` with it
areas_without_concealends : (tree : PatternTree)
    → marked_items (live (record (region tree 1 (3 ∷ []) (3 ∷ [])) { conceal = true; concealends = false }) ∷ [])
    ≡ live (record (region tree 20000 (3 ∷ []) (3 ∷ [])) { conceal = true; concealends = false }) ∷ []
areas_without_concealends tree = refl

a_skip_stays : (tree : PatternTree)
    → marked_items (live (record (plain_item (group 1)) { kind = Region (patterns tree (3 ∷ [])) (Some (pattern tree (Some (group 3)))) []; concealends = true }) ∷ [])
    ≡ live (record (plain_item (group 1)) { kind = Region (patterns tree (20000 ∷ [])) (Some (pattern tree (Some (group 3)))) []; concealends = true }) ∷ []
a_skip_stays tree = refl

-- a match with `concealends` has no areas
no_area_of_a_match : (tree : PatternTree)
    → marks_of (live (record (plain_item (group 1)) { kind = Match (pattern tree (Some (group 3))); concealends = true }) ∷ []) ≡ []
no_area_of_a_match tree = refl

-- a transparent item is marked as any other
a_transparent_item : marks_of (live (record (concealed 1) { transparent = true }) ∷ []) ≡ mark 20000 0 1 ∷ []
a_transparent_item = refl

-- Lists: syn match A "a" conceal / syn match B "b" contains=ALLBUT,A,@C containedin=A nextgroup=B / syn match A "c" conceal

abbrev with_lists : (Entry → List Entry) → Item
with_lists of_a = record (plain_item (group 2)) {
  contains = list_of AllBut (of_a (Group (group 1)));
  containedin = list_of Plain (of_a (Group (group 1)));
  nextgroup = list_of Plain (Group (group 2) ∷ Cluster 0 ∷ []);
}

-- a group is named as it was, and its marks behind it
lists_name_marks : marked_items (live (concealed 1) ∷ live (with_lists (λ e. e ∷ Cluster 0 ∷ [])) ∷ live (concealed 1) ∷ [])
    ≡ live (record (concealed 1) { group = group 20000 })
    ∷ live (with_lists (λ e. e ∷ Group (group 20000) ∷ Group (group 20001) ∷ Cluster 0 ∷ []))
    ∷ live (record (concealed 1) { group = group 20001 })
    ∷ []
lists_name_marks = refl

-- so do those of an item that isn't live
lists_of_a_dead_item : marked_items (live (concealed 1) ∷ dead (with_lists (λ e. e ∷ Cluster 0 ∷ [])) ∷ [])
    ≡ live (record (concealed 1) { group = group 20000 })
    ∷ dead (with_lists (λ e. e ∷ Group (group 20000) ∷ Cluster 0 ∷ []))
    ∷ []
lists_of_a_dead_item = refl

-- syn cluster C contains=B,@D,A / syn cluster D contains=A
clusters_name_marks : marked_lists bodies (record { groups = 2 ∷ 1 ∷ []; clusters = 1 ∷ [] } ∷ record { groups = 1 ∷ []; clusters = [] } ∷ [])
    ≡ record { groups = 2 ∷ 1 ∷ 20000 ∷ 20001 ∷ []; clusters = 1 ∷ [] } ∷ record { groups = 1 ∷ 20000 ∷ 20001 ∷ []; clusters = [] } ∷ []
clusters_name_marks = refl
