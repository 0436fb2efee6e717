-- Where lists and clusters name groups alike, the same items are allowed and next.
use Rattle.std.proofs.Common.{◌≡◌, ℕ, zero, suc, Bool, true, false, List, [], ◌∷◌, length, refl, sym, ap}
use Rattle.std.proofs.Common.{◌∙◌, arith, ◌<◌}
use Rattle.std.specs.Prelude.{Option, Some, None, ◌&&◌, ◌||◌, not, is_some, nat_eq, nat_lt, slice_get}
use Rattle.std.specs.Prelude.{get_or}
use Rattle.std.specs.List.{list_any}
use Rattle.std.proofs.lemmas.Bool.Decides.{nat_tests}
use Rattle.std.proofs.lemmas.Option.{slice_get-get_or, slice_get_within, get_or_from_slice_get}
use Rattle.syn_base.specs.declared.places.GroupId.{GroupId}
use Rattle.syn_base.specs.declared.places.ItemId.{ItemId}
use Rattle.syntax_set.specs.Allowed.{is_free, is_allowed_in, passes}
use Rattle.syntax_set.specs.ClusterLists.{clusters_in, groups_in, list_at}
use Rattle.syntax_set.specs.ClusterTable.{ClusterList}
use Rattle.syntax_set.specs.Membership.{cluster_has, entries_have, has_by, is_member}
use Rattle.syntax_set.specs.Membership.{is_member_of_option}
use Rattle.syntax_set.specs.Numbers.{has_number}
use Rattle.syntax_set.specs.declared.added_item.AddedItem.{AddedItem}
use Rattle.syntax_set.specs.declared.item.Entry.{Entry}
use Rattle.syntax_set.specs.declared.item.Entry.TheVariants.{Group, Cluster}
use Rattle.syntax_set.specs.declared.item.GroupList.{GroupList}
use Rattle.syntax_set.specs.declared.item.Item.{Item}
use Rattle.syntax_set.specs.declared.item.Special.{Special}
use Rattle.syntax_set.specs.declared.item.Special.TheVariants.{Plain, All, AllBut, Top, Contained}
use Rattle.syntax_set.specs.declared.item.Special.TheVariants.{Nothing}
use Rattle.paint_rules.specs.Lists.{is_allowed_in as allowed_by, is_in_list}
use Rattle.paint_rules.specs.Rules.{Rules, item_of, no_added}
use Rattle.paint_marks.specs.Marked.{IsMarked, in_old_groups, with_lists_of}
use Rattle.paint_marks.specs.Named.{added_of, NamesAlike, NameAlike}
use Rattle.paint_marks.specs.Named.{ClusterNamesAlike, AreMarkedWithLists}
use Rattle.paint_marks.specs.Named.{ListsAreEnough, MembersAreTheSame}
use Rattle.paint_marks.specs.OldGroups.{OldGroups}

any_same : {X : Type 0} (p q : X → Bool) → ((x : X) → p x ≡ q x) → (xs : List X) →
    list_any p xs ≡ list_any q xs
any_same p q e [] = refl
any_same p q e (x ∷ xs) = λ j. e x j || any_same p q e xs j

or_true : (a : Bool) → (a || true) ≡ true
or_true true = refl
or_true false = refl

-- a test passes at one of some numbers
record PassesAt (test : ℕ → Bool) (numbers : List ℕ) : Type 0 where
  number : ℕ
  among : has_number numbers number ≡ true
  passes : test number ≡ true

same_is : (n : ℕ) → nat_eq n n ≡ true
same_is n = grind (arith, nat_tests)

passes_somewhere : (test : ℕ → Bool) (numbers : List ℕ) → list_any test numbers ≡ true → PassesAt test numbers
passes_somewhere test [] e = absurd (cc)
passes_somewhere test (n ∷ numbers) e = by_test (test n) refl (λ f. passes_somewhere test numbers f)
  where
    by_test : (v : Bool) → test n ≡ v → (list_any test numbers ≡ true → PassesAt test numbers) → PassesAt test (n ∷ numbers)
    by_test true f behind = record {
      number = n;
      among = ap (λ v. v || has_number numbers n) (same_is n);
      passes = f;
    }
    by_test false f behind =
        let rest : PassesAt test numbers = behind (sym (ap (λ v. v || list_any test numbers) f) ∙ e) in
        record {
          number = rest.number;
          among = ap (λ v. nat_eq rest.number n || v) rest.among ∙ or_true (nat_eq rest.number n);
          passes = rest.passes;
        }

passes_among : (test : ℕ → Bool) (numbers : List ℕ) (n : ℕ) → has_number numbers n ≡ true → test n ≡ true → list_any test numbers ≡ true
passes_among test [] n e f = absurd (cc)
passes_among test (k ∷ numbers) n e f = by_same (nat_eq n k) refl (λ g. passes_among test numbers n g f)
  where
    by_same : (v : Bool) → nat_eq n k ≡ v → (has_number numbers n ≡ true → list_any test numbers ≡ true) → list_any test (k ∷ numbers) ≡ true
    by_same true g behind =
        let same : n ≡ k = grind (arith, nat_tests) in
        ap (λ v. v || list_any test numbers) (sym (ap test same) ∙ f)
    by_same false g behind =
        ap (λ v. test k || v) (behind (sym (ap (λ v. v || has_number numbers n) g) ∙ e))
        ∙ or_true (test k)

-- a test passes among the same numbers, however they stand
pub among_same : (test : ℕ → Bool) (numbers others : List ℕ) → ((n : ℕ) → has_number numbers n ≡ has_number others n) →
    list_any test numbers ≡ list_any test others
among_same test numbers others same = by_tests (list_any test numbers) (list_any test others) refl refl
  where
    by_tests : (v w : Bool) → list_any test numbers ≡ v → list_any test others ≡ w → v ≡ w
    by_tests true true e f = refl
    by_tests false false e f = refl
    by_tests true false e f =
        let at = passes_somewhere test numbers e in
        sym (passes_among test others at.number (sym (same at.number) ∙ at.among) at.passes) ∙ f
    by_tests false true e f =
        let at = passes_somewhere test others f in
        sym e ∙ passes_among test numbers at.number (same at.number ∙ at.among) at.passes

or_swap : (a b c : Bool) → (a || (b || c)) ≡ (b || (a || c))
or_swap true true c = refl
or_swap true false c = refl
or_swap false true c = refl
or_swap false false c = refl

or_assoc : (a b c : Bool) → (a || (b || c)) ≡ ((a || b) || c)
or_assoc true b c = refl
or_assoc false b c = refl

-- entries have a group that they name, or that a cluster has that they name
entries_by_parts : (lists : List ClusterList) (group : GroupId) (entries : List Entry) →
    entries_have lists entries group
    ≡ (has_number (groups_in entries) group.0
    || list_any (cluster_has lists 30 group.0) (clusters_in entries))
entries_by_parts lists group [] = refl
entries_by_parts lists group (Group named ∷ entries) =
    ap (λ v. nat_eq group.0 named.0 || v) (entries_by_parts lists group entries)
    ∙ or_assoc (nat_eq group.0 named.0) (has_number (groups_in entries) group.0)
    (list_any (cluster_has lists 30 group.0) (clusters_in entries))
entries_by_parts lists group (Cluster cluster ∷ entries) =
    ap (λ v. cluster_has lists 30 group.0 cluster || v) (entries_by_parts lists group entries)
    ∙ or_swap (cluster_has lists 30 group.0 cluster) (has_number (groups_in entries) group.0)
    (list_any (cluster_has lists 30 group.0) (clusters_in entries))

module _ (old : OldGroups) (marked r : Rules) (group : GroupId)
    (alike : (cluster : ℕ) →
    ClusterNamesAlike old group (list_at marked.lists cluster) (list_at r.lists cluster)) where
  clusters_same : (levels cluster : ℕ) →
      cluster_has r.lists levels (old group).0 cluster
      ≡ cluster_has marked.lists levels group.0 cluster
  unfolding cluster_has
  clusters_same zero cluster = refl
  clusters_same (suc levels) cluster = λ j.
      (alike cluster).groups j
      || (any_same (cluster_has r.lists levels (old group).0)
      (cluster_has marked.lists levels group.0) (clusters_same levels)
      (list_at r.lists cluster).clusters
      ∙ among_same (cluster_has marked.lists levels group.0) (list_at r.lists cluster).clusters
      (list_at marked.lists cluster).clusters (alike cluster).clusters) j

  entries_same : (list own : GroupList) → NamesAlike old group list own →
      entries_have r.lists own.entries (old group)
      ≡ entries_have marked.lists list.entries group
  entries_same list own h =
      entries_by_parts r.lists (old group) own.entries
      ∙ ((λ j. h.groups j
      || (any_same (cluster_has r.lists 30 (old group).0) (cluster_has marked.lists 30 group.0)
      (clusters_same 30) (clusters_in own.entries)
      ∙ ap (list_any (cluster_has marked.lists 30 group.0)) h.clusters) j)
      ∙ sym (entries_by_parts marked.lists group list.entries))

-- whether a list has an item is told by whether its entries have the item's group, whether the
-- item's include is the list owner's, and whether it is contained
has_told : Special → Bool → Bool → Bool → Bool
has_told Plain has own contained = has
has_told All has own contained = true
has_told AllBut has own contained = not has
has_told Top has own contained = own && not contained && not has
has_told Contained has own contained = own && contained && not has
has_told Nothing has own contained = false

by_told : (lists : List ClusterList) (special : Special) (entries : List Entry) (include : ℕ)
    (item : Item) →
    has_by lists special entries include item
    ≡ has_told special (entries_have lists entries item.group) (nat_eq item.include include)
    item.contained
unfolding has_told
by_told lists Plain entries include item = refl
by_told lists All entries include item = refl
by_told lists AllBut entries include item = refl
by_told lists Top entries include item = refl
by_told lists Contained entries include item = refl
by_told lists Nothing entries include item = refl

passes_within : (test : AddedItem → Bool) (items : List AddedItem) (n : ℕ)
    (o : Option AddedItem) → slice_get items n ≡ o →
    passes test o ≡ (nat_lt n (length items) && test (get_or items n no_added))
passes_within test items n (Some a) e =
    let within : n < length items = slice_get_within items n a e in
    let on : nat_lt n (length items) ≡ true = grind (arith, nat_tests) in
    let is : get_or items n no_added ≡ a = get_or_from_slice_get items n a no_added e in
    sym (λ j. on j && test (is j))
passes_within test items n None e = by_test (nat_lt n (length items)) refl
  where
    by_test : (v : Bool) → nat_lt n (length items) ≡ v →
        false ≡ (v && test (get_or items n no_added))
    by_test false f = refl
    by_test true f =
        let within : n < length items = grind (arith, nat_tests) in
        let there : slice_get items n ≡ Some (get_or items n no_added) =
        slice_get-get_or items n no_added within in
        absurd (cc)

passes_at : (test : AddedItem → Bool) (items : List AddedItem) (i : ItemId) →
    passes test (slice_get items i.0)
    ≡ (nat_lt i.0 (length items) && test (added_of items i))
passes_at test items i = passes_within test items i.0 (slice_get items i.0) refl

some_alike : (old : OldGroups) (group : GroupId) (o own : Option GroupList) →
    NameAlike old group o own → is_some own ≡ is_some o
some_alike old group None None h = refl
some_alike old group (Some list) (Some own) h = refl
some_alike old group None (Some own) h = absurd h
some_alike old group (Some list) None h = absurd h

module _ (old : OldGroups) (marked r : Rules) (m : AreMarkedWithLists old marked r) where
  own_same : (i : ItemId) →
      (added_of r.items i).item
      ≡ with_lists_of (added_of r.items i).item
      (in_old_groups old (added_of marked.items i).item)
  own_same i = (m.each i).same

  include_same : (i : ItemId) →
      (added_of r.items i).item.include ≡ (added_of marked.items i).item.include
  include_same i = ap (λ (x : Item). x.include) (own_same i)

  contained_same : (i : ItemId) →
      (added_of r.items i).item.contained ≡ (added_of marked.items i).item.contained
  contained_same i = ap (λ (x : Item). x.contained) (own_same i)

  has_same : (i : ItemId) (list own : GroupList) (include : ℕ) →
      NamesAlike old (item_of marked.items i).group list own →
      has_by r.lists own.special own.entries include (added_of r.items i).item
      ≡ has_by marked.lists list.special list.entries include (added_of marked.items i).item
  has_same i list own include h =
      by_told r.lists own.special own.entries include (added_of r.items i).item
      ∙ ((λ j. has_told (h.special j)
      ((ap (λ (x : Item). entries_have r.lists own.entries x.group) (own_same i)
      ∙ entries_same old marked r (item_of marked.items i).group (m.clusters i) list own h) j)
      (nat_eq (include_same i j) include) (contained_same i j))
      ∙ sym (by_told marked.lists list.special list.entries include
      (added_of marked.items i).item))

  member_same : (i : ItemId) (list own : GroupList) (include : ℕ) →
      NamesAlike old (item_of marked.items i).group list own →
      is_member r.lists own include (added_of r.items i)
      ≡ is_member marked.lists list include (added_of marked.items i)
  member_same i list own include h = λ j.
      (m.each i).live j && has_same i list own include h j

  member_of_option_same : (i : ItemId) (o own : Option GroupList) (include : ℕ) →
      NameAlike old (item_of marked.items i).group o own →
      is_member_of_option r.lists own include (added_of r.items i)
      ≡ is_member_of_option marked.lists o include (added_of marked.items i)
  member_of_option_same i None None include h = refl
  member_of_option_same i (Some list) (Some own) include h = member_same i list own include h
  member_of_option_same i None (Some own) include h = absurd h
  member_of_option_same i (Some list) None include h = absurd h

  -- a container's `contains`, and an item's own `containedin`
  allowed_in_same : (i k : ItemId) →
      is_allowed_in r.lists (added_of r.items i) (added_of r.items k)
      ≡ is_allowed_in marked.lists (added_of marked.items i) (added_of marked.items k)
  allowed_in_same i k = λ j.
      (m.each i).live j
      && ((ap (λ include. is_member_of_option r.lists (added_of r.items k).item.contains include
      (added_of r.items i)) (include_same k)
      ∙ member_of_option_same i _ _ _ (m.lists i k).contains) j
      || (ap (λ include. is_member_of_option r.lists (added_of r.items i).item.containedin include
      (added_of r.items k)) (include_same i)
      ∙ member_of_option_same k _ _ _ (m.lists k i).containedin) j)

  free_same : (i : ItemId) → is_free (added_of r.items i) ≡ is_free (added_of marked.items i)
  free_same i = λ j.
      (m.each i).live j && not (contained_same i j) && nat_eq (include_same i j) 0

  allowed_same : (container : Option ItemId) (i : ItemId) →
      allowed_by r container i ≡ allowed_by marked container i
  allowed_same None i =
      passes_at is_free r.items i
      ∙ ((λ j. nat_lt i.0 (m.as_many j) && free_same i j)
      ∙ sym (passes_at is_free marked.items i))
  allowed_same (Some k) i =
      passes_at (λ added. passes (is_allowed_in r.lists added) (slice_get r.items k.0)) r.items i
      ∙ ((λ j. nat_lt i.0 (m.as_many j)
      && (passes_at (is_allowed_in r.lists (added_of r.items i)) r.items k
      ∙ ((λ j. nat_lt k.0 (m.as_many j) && allowed_in_same i k j)
      ∙ sym (passes_at (is_allowed_in marked.lists (added_of marked.items i)) marked.items k))) j)
      ∙ sym (passes_at
      (λ added. passes (is_allowed_in marked.lists added) (slice_get marked.items k.0))
      marked.items i))

  in_list_same : (i : ItemId) (o own : Option GroupList) →
      NameAlike old (item_of marked.items i).group o own →
      is_in_list r own i ≡ is_in_list marked o i
  in_list_same i None None h = refl
  in_list_same i (Some list) (Some own) h =
      passes_at (is_member r.lists own 0) r.items i
      ∙ ((λ j. nat_lt i.0 (m.as_many j) && member_same i list own 0 h j)
      ∙ sym (passes_at (is_member marked.lists list 0) marked.items i))
  in_list_same i None (Some own) h = absurd h
  in_list_same i (Some list) None h = absurd h

  is_marked : (i : ItemId) → IsMarked old (item_of marked.items i) (item_of r.items i)
  is_marked i = record {
    same = own_same i;
    contains = some_alike old _ _ _ (m.lists i i).contains;
    nextgroup = some_alike old _ _ _ (m.lists i i).nextgroup;
  }

pub lists_are_enough : ListsAreEnough
lists_are_enough old marked r m = record {
  as_many = m.as_many;
  each = is_marked old marked r m;
  allowed = allowed_same old marked r m;
  next = λ waiting i. in_list_same old marked r m i _ _ (m.lists i waiting).nextgroup;
  else_same = m.else_same;
}

pub members_are_the_same : MembersAreTheSame
members_are_the_same old marked r m i list own h = in_list_same old marked r m i (Some list) (Some own) h
