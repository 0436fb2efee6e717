-- What entries name has what the entries have.
use Rattle.std.proofs.Common.{◌≡◌, ℕ, Bool, true, false, cond, ◌||◌, List, [], ◌∷◌, ◌++◌, refl, sym, ◌∙◌, ap, inl, inr}
use Rattle.std.specs.Prelude.{nat_eq}
use Rattle.std.specs.List.{list_any}
use Rattle.std.proofs.lemmas.List.Folds.{list_any-append}
use Rattle.syn_base.specs.declared.places.GroupId.{GroupId}
use Rattle.syntax_set.specs.declared.item.Entry.{Entry}
use Rattle.syntax_set.specs.declared.item.Entry.TheVariants.{Group, Cluster}
use Rattle.syntax_set.specs.Numbers.{has_number, with_number}
use Rattle.syntax_set.specs.ClusterTable.{ClusterList, no_list}
use Rattle.syntax_set.specs.ClusterLists.{with_entry, with_entries}
use Rattle.syntax_set.specs.Membership.{cluster_has, entry_has, entries_have}
use Rattle.syntax_set.specs.NamedLists.{named_has}
use Rattle.syntax_set.proofs.NumberLaws.{has_number-with_number}
use Rattle.syntax_set.proofs.Passing.{same_bool, or_left, or_cases, or_assoc, or_false, passes_among}

-- with one number more a test passes where it passed, or at that number
passes_with_number : (p : ℕ → Bool) (ns : List ℕ) (n : ℕ) → list_any p (with_number ns n) ≡ (list_any p ns || p n)
passes_with_number p ns n = by (has_number ns n) refl
  where
    among : has_number ns n ≡ true → (list_any p ns || p n) ≡ true → list_any p ns ≡ true
    among known either = elim (or_cases (list_any p ns) (p n) either) [ inl old ↦ old | inr here ↦ passes_among p ns n known here ]

    by : (b : Bool) → has_number ns n ≡ b → list_any p (cond b ns (ns ++ n ∷ [])) ≡ (list_any p ns || p n)
    by true known = same_bool (list_any p ns) (list_any p ns || p n) (or_left (list_any p ns) (p n)) (among known)
    by false new = list_any-append p ns (n ∷ []) ∙ ap (λ b. list_any p ns || b) (or_false (p n))

or_across : (a b c : Bool) → ((a || c) || b) ≡ ((a || b) || c)
or_across true b c = refl
or_across false true true = refl
or_across false true false = refl
or_across false false true = refl
or_across false false false = refl

-- so of one entry more
has_with_entry : (lists : List ClusterList) (named : ClusterList) (entry : Entry) (group : GroupId) → named_has lists (with_entry named entry) group ≡ (named_has lists named group || entry_has lists group entry)
has_with_entry lists named (Group other) group =
    let clusters = list_any (cluster_has lists 30 group.0) named.clusters in
    ap (λ b. b || clusters) (has_number-with_number named.groups other.0 group.0)
    ∙ or_across (has_number named.groups group.0) clusters (nat_eq group.0 other.0)
has_with_entry lists named (Cluster cluster) group =
    let has = cluster_has lists 30 group.0 in
    ap (λ b. has_number named.groups group.0 || b) (passes_with_number has named.clusters cluster)
    ∙ sym (or_assoc (has_number named.groups group.0) (list_any has named.clusters) (has cluster))

has_with_entries : (lists : List ClusterList) (named : ClusterList) (entries : List Entry) (group : GroupId) → named_has lists (with_entries named entries) group ≡ (named_has lists named group || entries_have lists entries group)
has_with_entries lists named [] group = sym (or_false (named_has lists named group))
has_with_entries lists named (entry ∷ entries) group =
    has_with_entries lists (with_entry named entry) entries group
    ∙ ap (λ b. b || entries_have lists entries group) (has_with_entry lists named entry group)
    ∙ or_assoc (named_has lists named group) (entry_has lists group entry) (entries_have lists entries group)

-- what entries name has the group where one of them has it
pub named_has-entries : (lists : List ClusterList) (named : ClusterList) (entries : List Entry) (group : GroupId) → named ≡ with_entries no_list entries → named_has lists named group ≡ entries_have lists entries group
named_has-entries lists named entries group e =
    ap (λ n. named_has lists n group) e ∙ has_with_entries lists no_list entries group
