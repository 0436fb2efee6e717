-- What marked items and lists are in the old groups.
use Rattle.std.proofs.Common.{◌≡◌, ℕ, zero, suc, ◌+◌, Bool, true, false, cond, List, [], ◌∷◌, ◌++◌, length, get_or, map, refl, sym, ap, ◌∙◌, arith, subst, lit<}
use Rattle.std.specs.Prelude.{nat_eq, Option, Some, None, slice_get}
use Rattle.std.specs.List.{All}
use Rattle.std.specs.Option.{ForSome, option_map}
use Rattle.std.proofs.lemmas.Bool.{eqb-true}
use Rattle.std.proofs.lemmas.List.Elements.{All-cons, All-head, All-nil, All-tail}
use Rattle.std.proofs.lemmas.Option.{slice_get-get_or}
use Rattle.syn_base.specs.declared.places.GroupId.{GroupId}
use Rattle.syntax_set.specs.Groups.{group_numbered}
use Rattle.syntax_set.specs.declared.added_item.AddedItem.{AddedItem}
use Rattle.syntax_set.specs.declared.item.Item.{Item}
use Rattle.syntax_set.specs.declared.item.ItemKind.{ItemKind}
use Rattle.syntax_set.specs.declared.item.ItemKind.TheVariants.{Keyword, Match, Region}
use Rattle.syntax_set.specs.declared.item.Pattern.{Pattern}
use Rattle.paint_rules.specs.Rules.{no_added, no_item}
use Rattle.paint_marks.specs.Marked.{in_old_groups, with_lists_of}
use Rattle.paint_marks.specs.Named.{IsMarkedButLists}
use Rattle.paint_marks.specs.Naming.{MarksOfGroups}
use Rattle.paint_marks.specs.OldGroups.{OldGroups, unmarked_kind, unmarked_pattern}
use Rattle.conceal_view.specs.declared.marks.Mark.{Mark}
use Rattle.conceal_view.specs.Marks.{concealed_areas, concealed_body, groups_to_mark, marks_for, marks_from, number_behind}
use Rattle.conceal_view.specs.Marking.{in_mark, in_marks, marked_from, marked_kind, marked_pattern, old_groups, shown_by, with_marks_named}
use Rattle.syntax_set.specs.NoMarks.{AddedHasNoMarks, IsNoMark, ItemHasNoMarks, KindHasNoMarks, PatternHasNoMark}
use Rattle.conceal_view.specs.View.{AreNumbered}
use Rattle.conceal_view.proofs.BlockLaws.{found_at, none_below}

-- Each mark stands for its group, and a group that is no mark for itself

pub old_of_mark : (marks : List Mark) → AreNumbered 20000 marks → All (λ (mark : Mark). old_groups marks mark.number ≡ mark.shown) marks
old_of_mark marks numbered k d within =
    let mark = get_or marks k d in
    let there : slice_get marks k ≡ Some mark = slice_get-get_or marks k d within in
    ap (shown_by mark.number) (found_at 20000 marks mark.number k numbered (numbered k mark there) ∙ there)

pub old_of_other : (marks : List Mark) → AreNumbered 20000 marks → (g : GroupId) → IsNoMark g → old_groups marks g ≡ g
old_of_other marks numbered g h = ap (shown_by g) (none_below 20000 marks g numbered h)

-- what holds of all of two lists
all_left : {X : Type 0} (P : X → Type 0) (xs ys : List X) → All P (xs ++ ys) → All P xs
all_left P [] ys h = All-nil P
all_left P (x ∷ xs) ys h = All-cons P x xs (All-head P x (xs ++ ys) h) (all_left P xs ys (All-tail P x (xs ++ ys) h))

all_right : {X : Type 0} (P : X → Type 0) (xs ys : List X) → All P (xs ++ ys) → All P ys
all_right P [] ys h = h
all_right P (x ∷ xs) ys h = all_right P xs ys (All-tail P x (xs ++ ys) h)

marks_for_both : (number item : ℕ) (groups more : List ℕ)
    → marks_for number item (groups ++ more) ≡ marks_for number item groups ++ marks_for (number + length groups) item more
marks_for_both number item [] more = ap (λ n. marks_for n item more) (omega arith)
marks_for_both number item (g ∷ groups) more =
    ap (λ (ms : List Mark). record { number = group_numbered number; item = record { 0 = item }; shown = group_numbered g } ∷ ms)
    (marks_for_both (suc number) item groups more
    ∙ ap (λ n. marks_for (suc number) item groups ++ marks_for n item more) (omega arith))

module _ (old : OldGroups) (stays : (g : GroupId) → IsNoMark g → old g ≡ g) where
  -- a group's mark stands for it
  back : (number item : ℕ) (groups : List ℕ) → All (λ (mark : Mark). old mark.number ≡ mark.shown) (marks_for number item groups)
      → (g : GroupId) → IsNoMark g → old (in_mark number groups g) ≡ g
  back number item [] stand g h = stays g h
  back number item (k ∷ groups) stand g h =
      by (nat_eq g.0 k) refl
      (All-head (λ (mark : Mark). old mark.number ≡ mark.shown) (record { number = group_numbered number; item = record { 0 = item }; shown = group_numbered k }) (marks_for (suc number) item groups) stand)
      (back (suc number) item groups
      (All-tail (λ (mark : Mark). old mark.number ≡ mark.shown) (record { number = group_numbered number; item = record { 0 = item }; shown = group_numbered k }) (marks_for (suc number) item groups) stand) g h)
    where
      by : (b : Bool) → nat_eq g.0 k ≡ b → old (group_numbered number) ≡ group_numbered k → old (in_mark (suc number) groups g) ≡ g
          → old (cond b (group_numbered number) (in_mark (suc number) groups g)) ≡ g
      by true same here behind = here ∙ ap group_numbered (sym (eqb-true g.0 k same))
      by false other here behind = behind

  module _ (mark : GroupId → GroupId) (returns : (g : GroupId) → IsNoMark g → old (mark g) ≡ g) where
    option_back : (o : Option GroupId) → ForSome o IsNoMark → option_map old (option_map mark o) ≡ o
    option_back None h = refl
    option_back (Some g) h = ap Some (returns g (h g refl))

    pattern_back : (p : Pattern) → PatternHasNoMark p → unmarked_pattern old (marked_pattern mark p) ≡ p
    pattern_back p h = ap (λ o. record p { matchgroup = o }) (option_back p.matchgroup h)

    patterns_back : (patterns : List Pattern) → All PatternHasNoMark patterns → map (unmarked_pattern old) (map (marked_pattern mark) patterns) ≡ patterns
    patterns_back [] h = refl
    patterns_back (p ∷ patterns) h = λ j.
        pattern_back p (All-head PatternHasNoMark p patterns h) j
        ∷ patterns_back patterns (All-tail PatternHasNoMark p patterns h) j

  option_stays : (o : Option GroupId) → ForSome o IsNoMark → option_map old o ≡ o
  option_stays None h = refl
  option_stays (Some g) h = ap Some (stays g (h g refl))

  pattern_stays : (p : Pattern) → PatternHasNoMark p → unmarked_pattern old p ≡ p
  pattern_stays p h = ap (λ o. record p { matchgroup = o }) (option_stays p.matchgroup h)

  skip_stays : (o : Option Pattern) → ForSome o PatternHasNoMark → option_map (unmarked_pattern old) o ≡ o
  skip_stays None h = refl
  skip_stays (Some p) h = ap Some (pattern_stays p (h p refl))

  patterns_stay : (patterns : List Pattern) → All PatternHasNoMark patterns → map (unmarked_pattern old) patterns ≡ patterns
  patterns_stay [] h = refl
  patterns_stay (p ∷ patterns) h = λ j.
      pattern_stays p (All-head PatternHasNoMark p patterns h) j ∷ patterns_stay patterns (All-tail PatternHasNoMark p patterns h) j

  kind_back : (mark : GroupId → GroupId) (returns : (g : GroupId) → IsNoMark g → old (mark g) ≡ g) (kind : ItemKind) → KindHasNoMarks kind
      → unmarked_kind old (marked_kind mark kind) ≡ kind
  kind_back mark returns Keyword h = refl
  kind_back mark returns (Match p) h = ap Match (pattern_stays p h)
  kind_back mark returns (Region starts skip ends) h = λ j.
      Region (patterns_back mark returns starts h.starts_have_none j) (skip_stays skip h.skip_has_none j) (patterns_back mark returns ends h.ends_have_none j)

  kind_stays : (kind : ItemKind) → KindHasNoMarks kind → unmarked_kind old kind ≡ kind
  kind_stays Keyword h = refl
  kind_stays (Match p) h = ap Match (pattern_stays p h)
  kind_stays (Region starts skip ends) h = λ j.
      Region (patterns_stay starts h.starts_have_none j) (skip_stays skip h.skip_has_none j) (patterns_stay ends h.ends_have_none j)

  -- an item is its marked form in the old groups, but for its lists
  item_back : (marks : MarksOfGroups) (number place : ℕ) (item : Item) → ItemHasNoMarks item → (live : Bool)
      → All (λ (mark : Mark). old mark.number ≡ mark.shown) (marks_for number place (cond live (concealed_body item ++ concealed_areas item) []))
      → item ≡ with_lists_of item (in_old_groups old (with_marks_named marks (cond live (in_marks number item) item)))
  item_back marks number place item h true stand =
      let body = concealed_body item in
      let areas = concealed_areas item in
      let P : Mark → Type 0 = λ mark. old mark.number ≡ mark.shown in
      let both : All P (marks_for number place body ++ marks_for (number + length body) place areas) =
      subst (λ (ms : List Mark). All P ms) (marks_for_both number place body areas) stand in
      let of_body = all_left P (marks_for number place body) (marks_for (number + length body) place areas) both in
      let of_areas = all_right P (marks_for number place body) (marks_for (number + length body) place areas) both in
      λ j. record item {
        group = sym (back number place body of_body item.group h.group) j;
        kind = sym (kind_back (in_mark (number + length body) areas) (back (number + length body) place areas of_areas) item.kind h.kind) j;
      }
  item_back marks number place item h false stand = λ j. record item {
    group = sym (stays item.group h.group) j;
    kind = sym (kind_stays item.kind h.kind) j;
  }

  pub items_back : (marks : MarksOfGroups) (number place : ℕ) (items : List AddedItem) → All AddedHasNoMarks items
      → All (λ (mark : Mark). old mark.number ≡ mark.shown) (marks_from number place items)
      → (i : ℕ) → IsMarkedButLists old (get_or (marked_from marks number items) i no_added) (get_or items i no_added)
  items_back marks number place [] h stand i = record {
    live = refl;
    same = ap (λ g. record no_item { group = g }) (sym (stays (group_numbered 0) (lit< tt)));
  }
  items_back marks number place (added ∷ items) h stand zero = record {
    live = refl;
    same = item_back marks number place added.item (All-head AddedHasNoMarks added items h) added.live
        (all_left (λ (mark : Mark). old mark.number ≡ mark.shown) (marks_for number place (groups_to_mark added)) (marks_from (number_behind number added) (suc place) items) stand);
  }
  items_back marks number place (added ∷ items) h stand (suc i) =
      items_back marks (number_behind number added) (suc place) items (All-tail AddedHasNoMarks added items h)
      (all_right (λ (mark : Mark). old mark.number ≡ mark.shown) (marks_for number place (groups_to_mark added)) (marks_from (number_behind number added) (suc place) items) stand) i
