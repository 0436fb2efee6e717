-- The list of a cluster keeps what is named.
use Rattle.std.proofs.Common.{◌≡◌, ℕ, List, [], ◌∷◌, ◌++◌, length, map, take, drop, refl, sym, ◌∙◌, ap, subst}
use Rattle.std.proofs.lemmas.List.{take-append-drop}
use Rattle.syntax_set.specs.declared.item.Entry.{Entry}
use Rattle.syntax_set.specs.declared.item.Entry.TheVariants.{Group, Cluster}
use Rattle.syntax_set.specs.declared.item.GroupList.{GroupList}
use Rattle.syntax_set.specs.declared.item.Special.TheVariants.{Plain}
use Rattle.syntax_set.specs.ClusterTable.{ClusterList}
use Rattle.syntax_set.specs.ClusterLists.{groups_in, clusters_in, entries_of, BeginsWith, IsListOf}

groups_in-append : (entries more : List Entry) → groups_in (entries ++ more) ≡ groups_in entries ++ groups_in more
groups_in-append [] more = refl
groups_in-append (Group group ∷ entries) more = ap (λ ns. group.0 ∷ ns) (groups_in-append entries more)
groups_in-append (Cluster cluster ∷ entries) more = groups_in-append entries more

clusters_in-append : (entries more : List Entry) → clusters_in (entries ++ more) ≡ clusters_in entries ++ clusters_in more
clusters_in-append [] more = refl
clusters_in-append (Group group ∷ entries) more = clusters_in-append entries more
clusters_in-append (Cluster cluster ∷ entries) more = ap (λ ns. cluster ∷ ns) (clusters_in-append entries more)

-- of clusters alone
no_groups_in : (clusters : List ℕ) → groups_in (map Cluster clusters) ≡ []
no_groups_in [] = refl
no_groups_in (cluster ∷ clusters) = no_groups_in clusters

all_clusters_in : (clusters : List ℕ) → clusters_in (map Cluster clusters) ≡ clusters
all_clusters_in [] = refl
all_clusters_in (cluster ∷ clusters) = ap (λ ns. cluster ∷ ns) (all_clusters_in clusters)

groups_in-entries_of : (groups clusters : List ℕ) → groups_in (entries_of groups clusters) ≡ groups
groups_in-entries_of [] clusters = no_groups_in clusters
groups_in-entries_of (group ∷ groups) clusters = ap (λ ns. group ∷ ns) (groups_in-entries_of groups clusters)

clusters_in-entries_of : (groups clusters : List ℕ) → clusters_in (entries_of groups clusters) ≡ clusters
clusters_in-entries_of [] clusters = all_clusters_in clusters
clusters_in-entries_of (group ∷ groups) clusters = clusters_in-entries_of groups clusters

-- the entries of all that is named are its list
pub listed_whole : (named : ClusterList) (option : GroupList) → option ≡ record { special = Plain; entries = entries_of named.groups named.clusters } → IsListOf named option
listed_whole named option e = subst (IsListOf named) (sym e) (record {
  plain = refl;
  groups = groups_in-entries_of named.groups named.clusters;
  clusters = clusters_in-entries_of named.groups named.clusters;
})

-- numbers, and what stands behind them in a list that begins with them
behind : (front numbers kept : List ℕ) → kept ≡ front → take (length front) numbers ≡ front → kept ++ drop (length front) numbers ≡ numbers
behind front numbers kept e begins =
    ap (λ ns. ns ++ drop (length front) numbers) (e ∙ sym begins) ∙ take-append-drop (length front) numbers

-- with the entries behind it of what more is named it is still its list
pub listed_more : (old new : ClusterList) (option longer : GroupList) → IsListOf old option → BeginsWith new old → longer.special ≡ option.special
    → longer.entries ≡ option.entries ++ entries_of (drop (length old.groups) new.groups) (drop (length old.clusters) new.clusters) → IsListOf new longer
listed_more old new option longer listed begins same e =
    let groups = drop (length old.groups) new.groups in
    let clusters = drop (length old.clusters) new.clusters in
    let more = entries_of groups clusters in
    record {
      plain = same ∙ listed.plain;
      groups =
          ap groups_in e
          ∙ groups_in-append option.entries more
          ∙ ap (λ ns. groups_in option.entries ++ ns) (groups_in-entries_of groups clusters)
          ∙ behind old.groups new.groups (groups_in option.entries) listed.groups begins.groups;
      clusters =
          ap clusters_in e
          ∙ clusters_in-append option.entries more
          ∙ ap (λ ns. clusters_in option.entries ++ ns) (clusters_in-entries_of groups clusters)
          ∙ behind old.clusters new.clusters (clusters_in option.entries) listed.clusters begins.clusters;
    }
