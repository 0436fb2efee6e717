-- What is kept of clusters, and what it tells.
use Rattle.std.proofs.Common.{◌≡◌, ℕ, zero, suc, ◌+◌, ◌≤◌, false, ◌||◌, List, [], ◌∷◌, ◌++◌, length, refl, sym, ◌∙◌, ap, subst, arith, length-append, cond, Option, Some, None, position, is_some}
use Rattle.std.specs.Option.{option_map}
use Rattle.std.specs.List.{list_any}
use Rattle.syntax_set.specs.Groups.{is_same_name, group_numbered, with_group}
use Rattle.syntax_set.specs.Numbers.{has_number}
use Rattle.syntax_set.specs.ClusterTable.{ClusterList, no_list}
use Rattle.syntax_set.specs.ClusterLists.{list_at}
use Rattle.syntax_set.specs.Membership.{cluster_has}
use Rattle.syntax_set.specs.Reached.{HoldsReached}
use Rattle.syntax_set.proofs.ListAt.{list_at-past}

-- a cluster that isn't there has nothing
pub cluster_has-past : (lists : List ClusterList) (levels group cluster : ℕ) → length lists ≤ cluster → cluster_has lists levels group cluster ≡ false
unfolding cluster_has
cluster_has-past lists zero group cluster past = refl
cluster_has-past lists (suc levels) group cluster past =
    let P : ClusterList → Type 0 = λ l. (has_number l.groups group || list_any (cluster_has lists levels group) l.clusters) ≡ false in
    subst P (sym (list_at-past lists cluster past)) refl

-- on one level more a cluster has the groups that it names, and those that the clusters have that it names
pub cluster_has-further : (lists : List ClusterList) (levels fewer group cluster : ℕ) (list : ClusterList) → levels ≡ suc fewer → list_at lists cluster ≡ list → cluster_has lists levels group cluster ≡ (has_number list.groups group || list_any (cluster_has lists fewer group) list.clusters)
unfolding cluster_has
cluster_has-further lists levels fewer group cluster list more e =
    let P : ℕ → Type 0 = λ n. cluster_has lists n group cluster ≡ (has_number list.groups group || list_any (cluster_has lists fewer group) list.clusters) in
    let here = ap (λ (l : ClusterList). has_number l.groups group || list_any (cluster_has lists fewer group) l.clusters) e in
    subst P (sym more) here

-- on no level it has nothing
pub cluster_has-none : (lists : List ClusterList) (levels group cluster : ℕ) → levels ≡ 0 → cluster_has lists levels group cluster ≡ false
unfolding cluster_has
cluster_has-none lists levels group cluster none =
    let P : ℕ → Type 0 = λ n. cluster_has lists n group cluster ≡ false in
    subst P (sym none) refl

-- a name that is new comes last
with_group-new : (names : List (List ℕ)) (name : List ℕ) → ((n : ℕ) → position (is_same_name name) names ≡ Some n → ⊥) → with_group names name ≡ names ++ name ∷ []
with_group-new names name absent = by (position (is_same_name name) names) refl
  where
    by : (o : Option ℕ) → position (is_same_name name) names ≡ o → with_group names name ≡ names ++ name ∷ []
    by None e = ap (λ o. cond (is_some (option_map group_numbered o)) names (names ++ name ∷ [])) e
    by (Some n) e = absurd (absent n e)

-- what is kept after a new name: nothing is settled
pub holds-number : (names more_names : List (List ℕ)) (lists more_lists : List ClusterList) (rows : Option (List (List ℕ))) (name : List ℕ) → HoldsReached names lists rows
    → ((n : ℕ) → position (is_same_name name) names ≡ Some n → ⊥) → more_names ≡ with_group names name → length more_names ≤ 20000 → more_lists ≡ lists ++ no_list ∷ []
    → HoldsReached more_names more_lists None
holds-number names more_names lists more_lists rows name holds absent e few f =
    let named = ap length (e ∙ with_group-new names name absent) ∙ length-append names (name ∷ []) in
    let listed = ap length f ∙ length-append lists (no_list ∷ []) in
    record {
      as_many_names = named ∙ ap (λ n. n + 1) holds.as_many_names ∙ sym listed;
      few = omega (arith, few, named, listed, holds.as_many_names);
      columns = tt;
    }
