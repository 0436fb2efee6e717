-- What a cluster has (Vim's help, :syn-cluster): groups and other clusters, each once, in the order in
-- which they were first named. `contains` of a cluster command gives it a new list, `add` adds to what it
-- has, and `remove` takes from it.
use Rattle.std.specs.Prelude.{◌≡◌, ℕ, List, [], ◌∷◌, ◌++◌, length, map, take, fold, Option, if◌then◌else◌, position, is_some, slice_get, slice_set, unwrap_or}
use Rattle.syntax_set.specs.declared.clusters.Change.{Change}
use Rattle.syntax_set.specs.declared.clusters.Change.TheVariants.{Set, Add, Remove}
use Rattle.syntax_set.specs.declared.item.Entry.{Entry}
use Rattle.syntax_set.specs.declared.item.Entry.TheVariants.{Group, Cluster}
use Rattle.syntax_set.specs.declared.item.GroupList.{GroupList}
use Rattle.syntax_set.specs.declared.item.Special.TheVariants.{Plain}
use Rattle.syntax_set.specs.Groups.{is_same_name, group_numbered}
use Rattle.syntax_set.specs.Numbers.{with_number, without}
use Rattle.syntax_set.specs.ClusterTable.{ClusterList, ClusterTable, no_list}

-- a list with one more entry
abbrev pub with_entry : ClusterList → Entry → ClusterList
with_entry list (Group group) = record { groups = with_number list.groups group.0; clusters = list.clusters }
with_entry list (Cluster cluster) = record { groups = list.groups; clusters = with_number list.clusters cluster }

abbrev pub with_entries : ClusterList → List Entry → ClusterList
with_entries list entries = fold with_entry list entries

-- a list that begins with another
pub record BeginsWith (list front : ClusterList) : Type 0 where
  pub groups : take (length front.groups) list.groups ≡ front.groups
  pub clusters : take (length front.clusters) list.clusters ≡ front.clusters

-- a list without what another has
abbrev pub less : ClusterList → ClusterList → ClusterList
less list other = record { groups = without list.groups other.groups; clusters = without list.clusters other.clusters }

-- what a list becomes by one part of a cluster command
abbrev pub changed : Change → ClusterList → List Entry → ClusterList
changed Set list entries = with_entries no_list entries
changed Add list entries = with_entries list entries
changed Remove list entries = less list (with_entries no_list entries)

-- the groups that entries name, and the clusters
abbrev pub groups_in : List Entry → List ℕ
groups_in [] = []
groups_in (Group group ∷ entries) = group.0 ∷ groups_in entries
groups_in (Cluster cluster ∷ entries) = groups_in entries

abbrev pub clusters_in : List Entry → List ℕ
clusters_in [] = []
clusters_in (Group group ∷ entries) = clusters_in entries
clusters_in (Cluster cluster ∷ entries) = cluster ∷ clusters_in entries

-- What a cluster has, as a list of an item's option: it says no more than names, which are these groups
-- and these clusters, each of the two in their order.
pub record IsListOf (list : ClusterList) (option : GroupList) : Type 0 where
  pub plain : option.special ≡ Plain
  pub groups : groups_in option.entries ≡ list.groups
  pub clusters : clusters_in option.entries ≡ list.clusters

-- the entry of a group
abbrev pub group_entry : ℕ → Entry
group_entry number = Group (group_numbered number)

-- the entries of groups, and of clusters behind them
abbrev pub entries_of : List ℕ → List ℕ → List Entry
entries_of groups clusters = map group_entry groups ++ map Cluster clusters

-- the list of a cluster, empty where no cluster has that number
abbrev pub list_at : List ClusterList → ℕ → ClusterList
list_at lists cluster = unwrap_or (slice_get lists cluster) no_list

-- the cluster that a name stands for, case ignored
abbrev pub cluster_of : ClusterTable → List ℕ → Option ℕ
cluster_of table name = position (is_same_name name) table.names

-- the clusters with that of a name, which is made without entries if it is new
abbrev pub with_cluster : ClusterTable → List ℕ → ClusterTable
with_cluster table name =
    if is_some (cluster_of table name) then table
    else record { names = table.names ++ name ∷ []; lists = table.lists ++ no_list ∷ [] }

-- the clusters after one part of a cluster command
abbrev pub with_change : ClusterTable → ℕ → Change → List Entry → ClusterTable
with_change table cluster how entries = record {
  names = table.names;
  lists = slice_set table.lists cluster (changed how (list_at table.lists cluster) entries);
}
