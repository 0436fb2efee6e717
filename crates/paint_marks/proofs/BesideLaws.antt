-- Marks that are named besides their old groups.
use Rattle.std.proofs.Common.{◌≡◌, ℕ, Bool, true, false, List, [], ◌∷◌, ◌++◌, refl, sym, ap, ◌∙◌, arith}
use Rattle.std.specs.Prelude.{nat_eq, cond, ◌||◌, map}
use Rattle.std.specs.List.{flat_map}
use Rattle.std.proofs.lemmas.Bool.Decides.{nat_tests}
use Rattle.std.proofs.lemmas.List.Folds.{list_any-append}
use Rattle.syn_base.specs.declared.places.GroupId.{GroupId}
use Rattle.syntax_set.specs.ClusterLists.{clusters_in, group_entry, groups_in}
use Rattle.syntax_set.specs.Numbers.{has_number, with_number, with_numbers}
use Rattle.syntax_set.specs.declared.item.Entry.{Entry}
use Rattle.syntax_set.specs.declared.item.Entry.TheVariants.{Group, Cluster}
use Rattle.paint_marks.specs.Besides.{StandsAmong, ListsWithMarks, ClustersWithMarks}
use Rattle.paint_marks.specs.Naming.{MarksOfGroups, entry_with_marks, named_with_marks}
use Rattle.paint_marks.specs.OldGroups.{OldGroups}

or_assoc : (a b c : Bool) → ((a || b) || c) ≡ (a || (b || c))
or_assoc true b c = refl
or_assoc false b c = refl

or_true : (a : Bool) → (a || true) ≡ true
or_true true = refl
or_true false = refl

or_false : (a : Bool) → (a || false) ≡ a
or_false true = refl
or_false false = refl

there : (n k : ℕ) (ns : List ℕ) → has_number ns n ≡ true → has_number (k ∷ ns) n ≡ true
there n k ns e = ap (λ v. nat_eq n k || v) e ∙ or_true (nat_eq n k)

here : (n : ℕ) (ns : List ℕ) → has_number (n ∷ ns) n ≡ true
here n ns = ap (λ v. v || has_number ns n) (same n)
  where
    same : (n : ℕ) → nat_eq n n ≡ true
    same n = grind (arith, nat_tests)

module _ (old : OldGroups) (marks : MarksOfGroups) (group : GroupId) where
  -- the group is among groups and their marks where its old one is among the groups
  named_alike : (groups : List ℕ) → StandsAmong old marks group groups →
      has_number groups (old group).0 ≡ has_number (flat_map (named_with_marks marks) groups) group.0
  named_alike [] stands = refl
  named_alike (g ∷ groups) stands =
      sym (list_any-append (nat_eq group.0) (named_with_marks marks g) (flat_map (named_with_marks marks) groups)
      ∙ (λ j. stands g (here g groups) j || sym (named_alike groups (λ k e. stands k (there k g groups e))) j))

marks_in : (groups : List ℕ) (entries : List Entry) → groups_in (map group_entry groups ++ entries) ≡ groups ++ groups_in entries
marks_in [] entries = refl
marks_in (g ∷ groups) entries = ap (λ gs. g ∷ gs) (marks_in groups entries)

no_clusters_in : (groups : List ℕ) (entries : List Entry) → clusters_in (map group_entry groups ++ entries) ≡ clusters_in entries
no_clusters_in [] entries = refl
no_clusters_in (g ∷ groups) entries = no_clusters_in groups entries

pub groups_with_marks : (marks : MarksOfGroups) (entries : List Entry) →
    groups_in (flat_map (entry_with_marks marks) entries) ≡ flat_map (named_with_marks marks) (groups_in entries)
groups_with_marks marks [] = refl
groups_with_marks marks (Group group ∷ entries) =
    marks_in (named_with_marks marks group.0) (flat_map (entry_with_marks marks) entries)
    ∙ ap (λ gs. named_with_marks marks group.0 ++ gs) (groups_with_marks marks entries)
groups_with_marks marks (Cluster cluster ∷ entries) = groups_with_marks marks entries

pub clusters_with_none : (marks : MarksOfGroups) (entries : List Entry) →
    clusters_in (flat_map (entry_with_marks marks) entries) ≡ clusters_in entries
clusters_with_none marks [] = refl
clusters_with_none marks (Group group ∷ entries) =
    no_clusters_in (named_with_marks marks group.0) (flat_map (entry_with_marks marks) entries)
    ∙ clusters_with_none marks entries
clusters_with_none marks (Cluster cluster ∷ entries) = ap (λ cs. cluster ∷ cs) (clusters_with_none marks entries)

-- to name a number once more says nothing more
one_more : (numbers : List ℕ) (number n : ℕ) → has_number (with_number numbers number) n ≡ (has_number numbers n || nat_eq n number)
one_more numbers number n = by_test (has_number numbers number) refl
  where
    by_test : (v : Bool) → has_number numbers number ≡ v →
        has_number (cond v numbers (numbers ++ number ∷ [])) n ≡ (has_number numbers n || nat_eq n number)
    by_test true e = by_same (nat_eq n number) refl
      where
        by_same : (w : Bool) → nat_eq n number ≡ w → has_number numbers n ≡ (has_number numbers n || w)
        by_same true f =
            let same : n ≡ number = grind (arith, nat_tests) in
            ap (λ k. has_number numbers k) same ∙ e ∙ sym (or_true (has_number numbers n))
        by_same false f = sym (or_false (has_number numbers n))
    by_test false e =
        list_any-append (nat_eq n) numbers (number ∷ [])
        ∙ ap (λ v. has_number numbers n || v) (or_false (nat_eq n number))

all_more : (numbers more : List ℕ) (n : ℕ) → has_number (with_numbers numbers more) n ≡ (has_number numbers n || has_number more n)
all_more numbers [] n = sym (or_false (has_number numbers n))
all_more numbers (k ∷ more) n =
    all_more (with_number numbers k) more n
    ∙ ap (λ v. v || has_number more n) (one_more numbers k n)
    ∙ or_assoc (has_number numbers n) (nat_eq n k) (has_number more n)

pub lists_with_marks : ListsWithMarks
lists_with_marks old marks list group stands = record {
  special = refl;
  groups = named_alike old marks group (groups_in list.entries) stands
      ∙ ap (λ ns. has_number ns group.0) (sym (groups_with_marks marks list.entries));
  clusters = sym (clusters_with_none marks list.entries);
}

pub clusters_with_marks : ClustersWithMarks
clusters_with_marks old marks list group stands = record {
  groups = named_alike old marks group list.groups stands
      ∙ sym (all_more [] (flat_map (named_with_marks marks) list.groups) group.0);
  clusters = λ n. sym (all_more [] list.clusters n);
}
