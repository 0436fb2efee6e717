-- The marks of items: their numbers, items and groups.
use Rattle.std.proofs.Common.{◌≡◌, ℕ, zero, suc, ◌+◌, ◌<◌, Bool, true, false, cond, List, [], ◌∷◌, ◌++◌, length, refl, sym, ap, ◌∙◌, arith}
use Rattle.std.specs.Prelude.{Option, Some, None, slice_get}
use Rattle.std.specs.List.{All}
use Rattle.std.specs.Option.{ForSome}
use Rattle.std.proofs.lemmas.List.Elements.{All-append, All-cons, All-head, All-nil, All-push, All-tail}
use Rattle.syn_base.specs.declared.places.GroupId.{GroupId}
use Rattle.syntax_set.specs.Numbers.{has_number, with_number, with_numbers}
use Rattle.syntax_set.specs.ClusterTable.{ClusterList}
use Rattle.syntax_set.specs.declared.added_item.AddedItem.{AddedItem}
use Rattle.syntax_set.specs.declared.item.Item.{Item}
use Rattle.syntax_set.specs.declared.item.ItemKind.{ItemKind}
use Rattle.syntax_set.specs.declared.item.ItemKind.TheVariants.{Keyword, Match, Region}
use Rattle.syntax_set.specs.declared.item.Pattern.{Pattern}
use Rattle.paint_marks.specs.Naming.{MarksOfGroups}
use Rattle.conceal_view.specs.declared.marks.Mark.{Mark}
use Rattle.conceal_view.specs.Marks.{concealed_areas, concealed_body, groups_to_mark, marks_for, marks_from, marks_of, matchgroups_in, matchgroups_of, number_behind, number_in}
use Rattle.conceal_view.specs.Marking.{marked_from}
use Rattle.syntax_set.specs.NoMarks.{AddedHasNoMarks, HaveNoMarks, IsNoMark, KindHasNoMarks, PatternHasNoMark}
use Rattle.conceal_view.specs.View.{AreNumbered}

-- Groups that are marked are no marks themselves

abbrev IsOld : ℕ → Type 0
IsOld n = n < 20000

abbrev ShowsOld : Mark → Type 0
ShowsOld mark = mark.shown.0 < 20000

one_old : (o : Option GroupId) → ForSome o IsNoMark → All IsOld (number_in o)
one_old None h = All-nil IsOld
one_old (Some g) h = All-cons IsOld g.0 [] (h g refl) (All-nil IsOld)

matchgroups_old : (patterns : List Pattern) → All PatternHasNoMark patterns → All IsOld (matchgroups_of patterns)
matchgroups_old [] h = All-nil IsOld
matchgroups_old (pattern ∷ patterns) h =
    All-append IsOld (number_in pattern.matchgroup) (matchgroups_of patterns)
    (one_old pattern.matchgroup (All-head PatternHasNoMark pattern patterns h))
    (matchgroups_old patterns (All-tail PatternHasNoMark pattern patterns h))

one_more_old : (ns : List ℕ) (n : ℕ) → All IsOld ns → IsOld n → All IsOld (with_number ns n)
one_more_old ns n h is = by (has_number ns n)
  where
    by : (b : Bool) → All IsOld (cond b ns (ns ++ n ∷ []))
    by true = h
    by false = All-push IsOld ns n h is

all_more_old : (ns more : List ℕ) → All IsOld ns → All IsOld more → All IsOld (with_numbers ns more)
all_more_old ns [] h are = h
all_more_old ns (n ∷ more) h are = all_more_old (with_number ns n) more (one_more_old ns n h (All-head IsOld n more are)) (All-tail IsOld n more are)

kind_old : (kind : ItemKind) → KindHasNoMarks kind → All IsOld (matchgroups_in kind)
kind_old Keyword h = All-nil IsOld
kind_old (Match pattern) h = All-nil IsOld
kind_old (Region starts skip ends) h =
    all_more_old [] (matchgroups_of starts ++ matchgroups_of ends) (All-nil IsOld)
    (All-append IsOld (matchgroups_of starts) (matchgroups_of ends) (matchgroups_old starts h.starts_have_none) (matchgroups_old ends h.ends_have_none))

body_old : (item : Item) → IsNoMark item.group → All IsOld (concealed_body item)
body_old item h = by item.conceal
  where
    by : (b : Bool) → All IsOld (cond b (item.group.0 ∷ []) [])
    by true = All-cons IsOld item.group.0 [] h (All-nil IsOld)
    by false = All-nil IsOld

areas_old : (item : Item) → KindHasNoMarks item.kind → All IsOld (concealed_areas item)
areas_old item h = by item.concealends
  where
    by : (b : Bool) → All IsOld (cond b (matchgroups_in item.kind) [])
    by true = kind_old item.kind h
    by false = All-nil IsOld

pub groups_old : (added : AddedItem) → AddedHasNoMarks added → All IsOld (groups_to_mark added)
groups_old added h = by added.live
  where
    by : (b : Bool) → All IsOld (cond b (concealed_body added.item ++ concealed_areas added.item) [])
    by true = All-append IsOld (concealed_body added.item) (concealed_areas added.item) (body_old added.item h.group) (areas_old added.item h.kind)
    by false = All-nil IsOld

marks_for_old : (number item : ℕ) (groups : List ℕ) → All IsOld groups → All ShowsOld (marks_for number item groups)
marks_for_old number item [] h = All-nil ShowsOld
marks_for_old number item (g ∷ groups) h =
    All-cons ShowsOld (record { number = record { 0 = number }; item = record { 0 = item }; shown = record { 0 = g } }) (marks_for (suc number) item groups)
    (All-head IsOld g groups h) (marks_for_old (suc number) item groups (All-tail IsOld g groups h))

marks_from_old : (number place : ℕ) (items : List AddedItem) → All AddedHasNoMarks items → All ShowsOld (marks_from number place items)
marks_from_old number place [] h = All-nil ShowsOld
marks_from_old number place (added ∷ items) h =
    All-append ShowsOld (marks_for number place (groups_to_mark added)) (marks_from (number_behind number added) (suc place) items)
    (marks_for_old number place (groups_to_mark added) (groups_old added (All-head AddedHasNoMarks added items h)))
    (marks_from_old (number_behind number added) (suc place) items (All-tail AddedHasNoMarks added items h))

pub marks_show_old_groups : (items : List AddedItem) (lists : List ClusterList) → HaveNoMarks items lists → All (λ (mark : Mark). mark.shown.0 < 20000) (marks_of items)
marks_show_old_groups items lists h = marks_from_old 20000 0 items h.items_have_none

-- Marks are of the items

abbrev IsOfOneBefore : ℕ → Mark → Type 0
IsOfOneBefore end mark = mark.item.0 < end

marks_for_before : (number item end : ℕ) (groups : List ℕ) → item < end → All (IsOfOneBefore end) (marks_for number item groups)
marks_for_before number item end [] h = All-nil (IsOfOneBefore end)
marks_for_before number item end (g ∷ groups) h =
    All-cons (IsOfOneBefore end) (record { number = record { 0 = number }; item = record { 0 = item }; shown = record { 0 = g } }) (marks_for (suc number) item groups)
    h (marks_for_before (suc number) item end groups h)

marks_from_before : (number place end : ℕ) (items : List AddedItem) → end ≡ place + length items → All (IsOfOneBefore end) (marks_from number place items)
marks_from_before number place end [] e = All-nil (IsOfOneBefore end)
marks_from_before number place end (added ∷ items) e =
    All-append (IsOfOneBefore end) (marks_for number place (groups_to_mark added)) (marks_from (number_behind number added) (suc place) items)
    (marks_for_before number place end (groups_to_mark added) (omega (arith, e)))
    (marks_from_before (number_behind number added) (suc place) end items (omega (arith, e)))

pub marks_are_of_items : (items : List AddedItem) → All (λ (mark : Mark). mark.item.0 < length items) (marks_of items)
marks_are_of_items items = marks_from_before 20000 0 (length items) items (omega arith)

-- Marks are numbered in order

numbered_behind : (number : ℕ) (mark : Mark) (marks : List Mark) → mark.number.0 ≡ number → AreNumbered (suc number) marks → AreNumbered number (mark ∷ marks)
numbered_behind number mark marks e h zero other f =
    let same : mark ≡ other = cc in
    sym (ap (λ (m : Mark). m.number.0) same) ∙ e ∙ omega arith
numbered_behind number mark marks e h (suc i) other f = h i other f ∙ omega arith

numbered_for : (number item : ℕ) (groups : List ℕ) (marks : List Mark) → AreNumbered (number + length groups) marks
    → AreNumbered number (marks_for number item groups ++ marks)
numbered_for number item [] marks h = λ i other e. h i other e ∙ omega arith
numbered_for number item (g ∷ groups) marks h =
    numbered_behind number (record { number = record { 0 = number }; item = record { 0 = item }; shown = record { 0 = g } }) (marks_for (suc number) item groups ++ marks) refl
    (numbered_for (suc number) item groups marks (λ i other e. h i other e ∙ omega arith))

numbered_from : (number place : ℕ) (items : List AddedItem) → AreNumbered number (marks_from number place items)
numbered_from number place [] = λ i other e. none i other e
  where
    none : (i : ℕ) (other : Mark) → slice_get [] i ≡ Some other → other.number.0 ≡ number + i
    none i other e = absurd (cc)
numbered_from number place (added ∷ items) =
    numbered_for number place (groups_to_mark added) (marks_from (number_behind number added) (suc place) items)
    (numbered_from (number_behind number added) (suc place) items)

pub marks_are_numbered : (items : List AddedItem) → AreNumbered 20000 (marks_of items)
marks_are_numbered items = numbered_from 20000 0 items

-- There are as many items as before

pub as_many_items : (marks : MarksOfGroups) (number : ℕ) (items : List AddedItem) → length (marked_from marks number items) ≡ length items
as_many_items marks number [] = refl
as_many_items marks number (added ∷ items) = ap (λ n. suc n) (as_many_items marks (number_behind number added) items)
