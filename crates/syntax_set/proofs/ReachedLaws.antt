-- Where the names of clusters lead: the groups that the clusters name to which one leads are those that it has.
use Rattle.std.proofs.Common.{◌≡◌, ℕ, zero, suc, Bool, true, List, sym, subst, true≢false, inl, inr}
use Rattle.std.proofs.lemmas.Bool.{eqb-true}
use Rattle.std.specs.Prelude.{nat_eq}
use Rattle.std.specs.List.{list_any}
use Rattle.syntax_set.specs.ClusterTable.{ClusterList}
use Rattle.syntax_set.specs.ClusterLists.{list_at}
use Rattle.syntax_set.specs.Membership.{cluster_has}
use Rattle.syntax_set.specs.Reached.{leads_to, names_group}
use Rattle.syntax_set.proofs.Passing.{or_left, or_right, or_cases, witness, is_itself}

module _ (lists : List ClusterList) where
  -- the clusters that one names
  abbrev pub next : ℕ → List ℕ
  next cluster = (list_at lists cluster).clusters

  -- whether the clusters that one names lead to the target
  abbrev pub onward : ℕ → ℕ → ℕ → Bool
  onward levels target cluster = list_any (leads_to lists levels target) (next cluster)

  pub leads_to-self : (levels cluster : ℕ) → leads_to lists (suc levels) cluster cluster ≡ true
  unfolding leads_to
  leads_to-self levels cluster = or_left (nat_eq cluster cluster) (onward levels cluster cluster) (is_itself cluster)

  -- a group that is named where a cluster leads is one that it has
  pub cluster_has-named : (levels middle group cluster : ℕ) → leads_to lists levels middle cluster ≡ true → names_group lists group middle ≡ true → cluster_has lists levels group cluster ≡ true
  unfolding leads_to cluster_has
  cluster_has-named zero middle group cluster h named = absurd (true≢false (sym h))
  cluster_has-named (suc levels) middle group cluster h named = elim (or_cases (nat_eq middle cluster) (onward levels middle cluster) h) [
    | inl same ↦
        let P : ℕ → Type 0 = λ k. names_group lists group k ≡ true in
        or_left (names_group lists group cluster) (list_any (cluster_has lists levels group) (next cluster)) (subst P (eqb-true middle cluster same) named)
    | inr later ↦
        let w = witness (leads_to lists levels middle) (next cluster) later in
        or_right (names_group lists group cluster) (list_any (cluster_has lists levels group) (next cluster))
        (w.among (cluster_has lists levels group) (cluster_has-named levels middle group w.at w.here named))
  ]

  -- a cluster that names the group and is led to
  pub record Names (levels group cluster : ℕ) : Type 0 where
    pub middle : ℕ
    pub led_to : leads_to lists levels middle cluster ≡ true
    pub named : names_group lists group middle ≡ true

  -- each group that a cluster has is named where it leads
  pub named-cluster_has : (levels group cluster : ℕ) → cluster_has lists levels group cluster ≡ true → Names levels group cluster
  unfolding leads_to cluster_has
  named-cluster_has zero group cluster h = absurd (true≢false (sym h))
  named-cluster_has (suc levels) group cluster h = elim (or_cases (names_group lists group cluster) (list_any (cluster_has lists levels group) (next cluster)) h) [
    | inl here ↦ record { middle = cluster; led_to = leads_to-self levels cluster; named = here }
    | inr later ↦
        let w = witness (cluster_has lists levels group) (next cluster) later in
        let n = named-cluster_has levels group w.at w.here in
        record {
          middle = n.middle;
          led_to = or_right (nat_eq n.middle cluster) (onward levels n.middle cluster) (w.among (leads_to lists levels n.middle) n.led_to);
          named = n.named;
        }
  ]
