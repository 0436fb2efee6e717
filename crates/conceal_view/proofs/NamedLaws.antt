-- Marked lists name a group where the list names its old one.
use Rattle.std.proofs.Common.{◌≡◌, ℕ, zero, suc, ◌<◌, ◌≤◌, Bool, true, false, cond, List, [], ◌∷◌, get_or, map, refl, sym, ap, ◌∙◌, inl, inr, arith}
use Rattle.std.specs.Prelude.{nat_eq, ◌||◌, Option, Some, None, filter}
use Rattle.std.specs.List.{All}
use Rattle.std.specs.Option.{ForSome, option_map}
use Rattle.std.proofs.lemmas.Bool.{cases_lt, eqb-true}
use Rattle.std.proofs.lemmas.Bool.Decides.{nat_tests}
use Rattle.std.proofs.lemmas.List.Elements.{All-head, All-nil, All-tail}
use Rattle.syn_base.specs.declared.places.GroupId.{GroupId}
use Rattle.syntax_set.specs.ClusterLists.{groups_in, list_at}
use Rattle.syntax_set.specs.ClusterTable.{ClusterList, no_list}
use Rattle.syntax_set.specs.Numbers.{has_number}
use Rattle.syntax_set.specs.declared.added_item.AddedItem.{AddedItem}
use Rattle.syntax_set.specs.declared.item.Entry.{Entry}
use Rattle.syntax_set.specs.declared.item.Entry.TheVariants.{Group, Cluster}
use Rattle.syntax_set.specs.declared.item.GroupList.{GroupList}
use Rattle.syntax_set.specs.declared.item.Item.{Item}
use Rattle.paint_rules.specs.Rules.{no_added}
use Rattle.paint_marks.specs.Besides.{StandsAmong}
use Rattle.paint_marks.specs.Named.{ClusterNamesAlike, ItemNamesAlike, NameAlike, NamesAlike}
use Rattle.paint_marks.specs.Naming.{marked_cluster, marked_list}
use Rattle.paint_marks.proofs.BesideLaws.{clusters_with_marks, lists_with_marks}
use Rattle.conceal_view.specs.declared.marks.Mark.{Mark}
use Rattle.conceal_view.specs.Marks.{number_behind}
use Rattle.conceal_view.specs.Marking.{in_marks, marked_from, marks_by_group, old_groups, shown_by, with_marks_named}
use Rattle.syntax_set.specs.NoMarks.{AddedHasNoMarks, ClusterHasNoMarks, EntryIsNoMark, ItemHasNoMarks, ListHasNoMarks}
use Rattle.conceal_view.specs.View.{AreNumbered, mark_of}
use Rattle.conceal_view.proofs.BlockLaws.{none_below, numbers_behind}

-- whether a mark, if there is one, stands for a group
abbrev shows : ℕ → Option Mark → Bool
shows g None = false
shows g (Some mark) = nat_eq mark.shown.0 g

or_false : (b : Bool) → (b || false) ≡ b
or_false true = refl
or_false false = refl

same_both_ways : (m n : ℕ) → nat_eq m n ≡ nat_eq n m
same_both_ways m n = grind (arith, nat_tests)

-- a group is among the marks of another if it is a mark that stands for that
among_marks : (first : ℕ) (marks : List Mark) → AreNumbered first marks → (g : ℕ) (group : GroupId)
    → has_number (marks_by_group marks g) group.0 ≡ shows g (mark_of marks group)
among_marks first [] numbered g group = refl
among_marks first (mark ∷ marks) numbered g group =
    by (nat_eq mark.number.0 group.0) (nat_eq mark.shown.0 g) refl refl
    (among_marks (suc first) marks behind g group)
    (λ same. ap (shows g) (none_below (suc first) marks group behind (omega (arith, eqb-true mark.number.0 group.0 same, numbered 0 mark refl))))
  where
    behind : AreNumbered (suc first) marks
    behind = numbers_behind first mark marks numbered

    by : (b v : Bool) → nat_eq mark.number.0 group.0 ≡ b → nat_eq mark.shown.0 g ≡ v
        → has_number (marks_by_group marks g) group.0 ≡ shows g (mark_of marks group)
        → (nat_eq mark.number.0 group.0 ≡ true → shows g (mark_of marks group) ≡ false)
        → has_number (map (λ (m : Mark). m.number.0) (cond v (mark ∷ filter (λ (m : Mark). nat_eq m.shown.0 g) marks) (filter (λ (m : Mark). nat_eq m.shown.0 g) marks))) group.0
        ≡ shows g (cond b (Some mark) (mark_of marks group))
    by true true e f rest none = ap (λ w. w || has_number (marks_by_group marks g) group.0) (same_both_ways group.0 mark.number.0 ∙ e) ∙ sym f
    by true false e f rest none = rest ∙ none e ∙ sym f
    by false true e f rest none = ap (λ w. w || has_number (marks_by_group marks g) group.0) (same_both_ways group.0 mark.number.0 ∙ e) ∙ rest
    by false false e f rest none = rest

-- of groups that are no marks, a group is its old one or a mark of it
stands_among : (marks : List Mark) → AreNumbered 20000 marks → (group : GroupId) (groups : List ℕ)
    → ((g : ℕ) → has_number groups g ≡ true → g < 20000)
    → StandsAmong (old_groups marks) (marks_by_group marks) group groups
stands_among marks numbered group groups below g there =
    ap (λ w. nat_eq group.0 g || w) (among_marks 20000 marks numbered g group)
    ∙ by (mark_of marks group) refl
  where
    by : (o : Option Mark) → mark_of marks group ≡ o → (nat_eq group.0 g || shows g o) ≡ nat_eq (shown_by group o).0 g
    by None e = or_false (nat_eq group.0 g)
    by (Some mark) e =
        let is_mark : 20000 ≤ group.0 = elim (cases_lt group.0 20000) [
          | inl lt ↦ let none : mark_of marks group ≡ None = none_below 20000 marks group numbered lt in absurd (cc)
          | inr le ↦ le
        ] in
        let under : g < 20000 = below g there in
        let differ : nat_eq group.0 g ≡ false = grind (arith, nat_tests) in
        ap (λ w. w || nat_eq mark.shown.0 g) differ

-- groups that are named are no marks

among_below : (groups : List ℕ) → All (λ g. g < 20000) groups → (g : ℕ) → has_number groups g ≡ true → g < 20000
among_below [] h g there = absurd (cc)
among_below (k ∷ groups) h g there = by (nat_eq g k) refl (among_below groups (All-tail (λ g. g < 20000) k groups h) g) (All-head (λ g. g < 20000) k groups h)
  where
    by : (b : Bool) → nat_eq g k ≡ b → (has_number groups g ≡ true → g < 20000) → k < 20000 → g < 20000
    by true same rest under = omega (arith, eqb-true g k same)
    by false other rest under = rest (sym (ap (λ w. w || has_number groups g) other) ∙ there)

entries_below : (entries : List Entry) → All EntryIsNoMark entries → (g : ℕ) → has_number (groups_in entries) g ≡ true → g < 20000
entries_below [] h g there = absurd (cc)
entries_below (Cluster cluster ∷ entries) h g there = entries_below entries (All-tail EntryIsNoMark (Cluster cluster) entries h) g there
entries_below (Group group ∷ entries) h g there =
    by (nat_eq g group.0) refl (entries_below entries (All-tail EntryIsNoMark (Group group) entries h) g) (All-head EntryIsNoMark (Group group) entries h)
  where
    by : (b : Bool) → nat_eq g group.0 ≡ b → (has_number (groups_in entries) g ≡ true → g < 20000) → group.0 < 20000 → g < 20000
    by true same rest under = omega (arith, eqb-true g group.0 same)
    by false other rest under = rest (sym (ap (λ w. w || has_number (groups_in entries) g) other) ∙ there)

module _ (marks : List Mark) (numbered : AreNumbered 20000 marks) (group : GroupId) where
  pub list_names_alike : (list : GroupList) → ListHasNoMarks list
      → NamesAlike (old_groups marks) group (marked_list (marks_by_group marks) list) list
  list_names_alike list h =
      lists_with_marks (old_groups marks) (marks_by_group marks) list group
      (stands_among marks numbered group (groups_in list.entries) (entries_below list.entries h))

  option_names_alike : (o : Option GroupList) → ForSome o ListHasNoMarks
      → NameAlike (old_groups marks) group (option_map (marked_list (marks_by_group marks)) o) o
  option_names_alike None h = tt
  option_names_alike (Some list) h = list_names_alike list (h list refl)

  item_names_alike : (number : ℕ) (item : Item) → ItemHasNoMarks item → (live : Bool)
      → ItemNamesAlike (old_groups marks) group (with_marks_named (marks_by_group marks) (cond live (in_marks number item) item)) item
  item_names_alike number item h true = record {
    contains = option_names_alike item.contains h.contains;
    containedin = option_names_alike item.containedin h.containedin;
    nextgroup = option_names_alike item.nextgroup h.nextgroup;
  }
  item_names_alike number item h false = record {
    contains = option_names_alike item.contains h.contains;
    containedin = option_names_alike item.containedin h.containedin;
    nextgroup = option_names_alike item.nextgroup h.nextgroup;
  }

  pub items_name_alike : (number : ℕ) (items : List AddedItem) → All AddedHasNoMarks items → (i : ℕ)
      → ItemNamesAlike (old_groups marks) group (get_or (marked_from (marks_by_group marks) number items) i no_added).item (get_or items i no_added).item
  items_name_alike number [] h i = record { contains = tt; containedin = tt; nextgroup = tt }
  items_name_alike number (added ∷ items) h zero = item_names_alike number added.item (All-head AddedHasNoMarks added items h) added.live
  items_name_alike number (added ∷ items) h (suc i) =
      items_name_alike (number_behind number added) items (All-tail AddedHasNoMarks added items h) i

  cluster_names_alike : (list : ClusterList) → ClusterHasNoMarks list
      → ClusterNamesAlike (old_groups marks) group (marked_cluster (marks_by_group marks) list) list
  cluster_names_alike list h =
      clusters_with_marks (old_groups marks) (marks_by_group marks) list group
      (stands_among marks numbered group list.groups (among_below list.groups h))

  pub clusters_name_alike : (lists : List ClusterList) → All ClusterHasNoMarks lists → (cluster : ℕ)
      → ClusterNamesAlike (old_groups marks) group (list_at (map (marked_cluster (marks_by_group marks)) lists) cluster) (list_at lists cluster)
  clusters_name_alike [] h cluster = cluster_names_alike no_list (All-nil (λ g. g < 20000))
  clusters_name_alike (list ∷ lists) h zero = cluster_names_alike list (All-head ClusterHasNoMarks list lists h)
  clusters_name_alike (list ∷ lists) h (suc cluster) = clusters_name_alike lists (All-tail ClusterHasNoMarks list lists h) cluster
