-- Items and clusters, one after the other.
use Rattle.std.proofs.Common.{◌≡◌, ℕ, zero, suc, ◌+◌, ◌<◌, Bool, List, [], ◌∷◌, ◌++◌, length, get_or, take, drop, set, map, refl, sym, ap, ◌∙◌, append_assoc, length-append, arith}
use Rattle.std.specs.Prelude.{Some, slice_get}
use Rattle.std.specs.List.{flat_map}
use Rattle.std.specs.Option.{option_map}
use Rattle.std.proofs.lemmas.List.{map-append, set_at, take_more}
use Rattle.std.proofs.lemmas.Option.{get_or_from_slice_get, slice_get_within, unwrap_or-slice_get}
use Rattle.syntax_set.specs.ClusterLists.{clusters_in, groups_in, list_at, with_entries, IsListOf}
use Rattle.syntax_set.specs.ClusterTable.{ClusterList, no_list}
use Rattle.syntax_set.specs.Items.{with_item}
use Rattle.syntax_set.specs.Numbers.{with_number, with_numbers}
use Rattle.syntax_set.specs.declared.added_item.AddedItem.{AddedItem}
use Rattle.syntax_set.specs.declared.item.Entry.{Entry}
use Rattle.syntax_set.specs.declared.item.Entry.TheVariants.{Group, Cluster}
use Rattle.syntax_set.specs.declared.item.GroupList.{GroupList}
use Rattle.syntax_set.specs.declared.item.Item.{Item}
use Rattle.paint_marks.specs.Naming.{MarksOfGroups, entry_with_marks, marked_cluster, named_with_marks}
use Rattle.paint_marks.proofs.BesideLaws.{clusters_with_none, groups_with_marks}
use Rattle.conceal_view.specs.declared.marks.Mark.{Mark}
use Rattle.conceal_view.specs.Marks.{groups_to_mark, marks_for, marks_from, number_behind}
use Rattle.conceal_view.specs.Marking.{marked_from, marked_item}
use Rattle.conceal_view.specs.MarkTables.{added_as}

rest_at : (items : List AddedItem) (place : ℕ) (item : Item) (live : Bool)
    → Some item ≡ option_map (λ (added : AddedItem). added.item) (slice_get items place)
    → Some live ≡ option_map (λ (added : AddedItem). added.live) (slice_get items place)
    → added_as live item ∷ drop (suc place) items ≡ drop place items
rest_at [] place item live e f = absurd (cc)
rest_at (added ∷ items) zero item live e f =
    let same : item ≡ added.item = cc in
    let alike : live ≡ added.live = cc in
    λ j. added_as (alike j) (same j) ∷ items
rest_at (added ∷ items) (suc place) item live e f = rest_at items place item live e f

length-marks_for : (number item : ℕ) (groups : List ℕ) → length (marks_for number item groups) ≡ length groups
length-marks_for number item [] = refl
length-marks_for number item (g ∷ groups) = ap (λ n. suc n) (length-marks_for (suc number) item groups)

module _ (items : List AddedItem) (place : ℕ) (item : Item) (live : Bool)
    (e : Some item ≡ option_map (λ (added : AddedItem). added.item) (slice_get items place))
    (f : Some live ≡ option_map (λ (added : AddedItem). added.live) (slice_get items place)) where
  -- the marks of one item more
  pub marks_of_one_more : (groups : List ℕ) (marks new all : List Mark) → groups ≡ groups_to_mark (added_as live item)
      → new ≡ marks ++ marks_for (20000 + length marks) place groups
      → marks ++ marks_from (20000 + length marks) place (drop place items) ≡ all
      → new ++ marks_from (20000 + length new) (place + 1) (drop (place + 1) items) ≡ all
  marks_of_one_more groups marks new all which made so_far =
      let first = 20000 + length marks in
      let own = marks_for first place (groups_to_mark (added_as live item)) in
      let more : place + 1 ≡ suc place = omega arith in
      let put : new ≡ marks ++ own = made ∙ ap (λ gs. marks ++ marks_for first place gs) which in
      let behind : 20000 + length (marks ++ own) ≡ number_behind first (added_as live item) =
      omega (arith, length-append marks own, length-marks_for first place (groups_to_mark (added_as live item))) in
      ap (λ (ms : List Mark). ms ++ marks_from (20000 + length ms) (place + 1) (drop (place + 1) items)) put
      ∙ append_assoc marks own (marks_from (20000 + length (marks ++ own)) (place + 1) (drop (place + 1) items))
      ∙ ap (λ n. marks ++ (own ++ marks_from n (place + 1) (drop (place + 1) items))) behind
      ∙ ap (λ k. marks ++ (own ++ marks_from (number_behind first (added_as live item)) k (drop k items))) more
      ∙ ap (λ xs. marks ++ marks_from first place xs) (rest_at items place item live e f)
      ∙ so_far

  -- the marked form of one item more
  pub one_item_more : (marks : MarksOfGroups) (number behind : ℕ) (marked : Item) (made new all : List AddedItem)
      → marked ≡ (marked_item marks number (added_as live item)).item → behind ≡ number_behind number (added_as live item)
      → new ≡ with_item live made marked
      → made ++ marked_from marks number (drop place items) ≡ all
      → new ++ marked_from marks behind (drop (place + 1) items) ≡ all
  one_item_more marks number behind marked made new all is next put so_far =
      let more : place + 1 ≡ suc place = omega arith in
      (λ j. put j ++ marked_from marks (next j) (drop (more j) items))
      ∙ append_assoc made (added_as live marked ∷ []) (marked_from marks (number_behind number (added_as live item)) (drop (suc place) items))
      ∙ ap (λ (x : Item). made ++ (added_as live x ∷ marked_from marks (number_behind number (added_as live item)) (drop (suc place) items))) is
      ∙ ap (λ xs. made ++ marked_from marks number xs) (rest_at items place item live e f)
      ∙ so_far

-- entries name their groups and their clusters
all_entries : (list : ClusterList) (entries : List Entry)
    → with_entries list entries ≡ record { groups = with_numbers list.groups (groups_in entries); clusters = with_numbers list.clusters (clusters_in entries) }
all_entries list [] = refl
all_entries list (Group group ∷ entries) = all_entries (record { groups = with_number list.groups group.0; clusters = list.clusters }) entries
all_entries list (Cluster cluster ∷ entries) = all_entries (record { groups = list.groups; clusters = with_number list.clusters cluster }) entries

-- a list of a cluster with marks named in it is that of the marked cluster
entries_with_marks : (marks : MarksOfGroups) (list : ClusterList) (option : GroupList) → IsListOf list option
    → with_entries no_list (flat_map (entry_with_marks marks) option.entries) ≡ marked_cluster marks list
entries_with_marks marks list option h =
    all_entries no_list (flat_map (entry_with_marks marks) option.entries)
    ∙ (λ j. record {
      groups = with_numbers [] ((groups_with_marks marks option.entries ∙ ap (flat_map (named_with_marks marks)) h.groups) j);
      clusters = with_numbers [] ((clusters_with_none marks option.entries ∙ h.clusters) j);
    })

-- one element more
pub take_place : {A : Type 0} → (xs : List A) (k : ℕ) (x : A) → Some x ≡ slice_get xs k → take (k + 1) xs ≡ take k xs ++ x ∷ []
take_place xs k x e =
    take_more xs k x (slice_get_within xs k x (sym e))
    ∙ ap (λ y. take k xs ++ y ∷ []) (get_or_from_slice_get xs k x x (sym e))

-- the list of one cluster more
pub lists_of_one_more : (marks : MarksOfGroups) (lists : List ClusterList) (place : ℕ) (option : GroupList) (entries : List Entry)
    (made after : List ClusterList)
    → place < length lists → IsListOf (list_at lists place) option
    → entries ≡ flat_map (entry_with_marks marks) option.entries
    → made ≡ map (marked_cluster marks) (take place lists)
    → length made ≡ place
    → after ≡ set (made ++ no_list ∷ []) place (with_entries no_list entries)
    → after ≡ map (marked_cluster marks) (take (place + 1) lists)
lists_of_one_more marks lists place option entries made after within h named so_far as_many put =
    let list = list_at lists place in
    put
    ∙ set_at made no_list [] (with_entries no_list entries) place as_many
    ∙ (λ j. so_far j ++ (ap (with_entries no_list) named ∙ entries_with_marks marks list option h) j ∷ [])
    ∙ ap (λ (l : ClusterList). map (marked_cluster marks) (take place lists) ++ marked_cluster marks l ∷ []) (unwrap_or-slice_get lists place no_list)
    ∙ sym (map-append (marked_cluster marks) (take place lists) (get_or lists place no_list ∷ []))
    ∙ ap (map (marked_cluster marks)) (sym (take_more lists place no_list within))
