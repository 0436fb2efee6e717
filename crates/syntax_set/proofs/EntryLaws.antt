-- A list with more entries begins with the list.
use Rattle.std.proofs.Common.{List, [], ◌∷◌, sym}
use Rattle.std.proofs.lemmas.List.{append-nil}
use Rattle.syntax_set.specs.declared.item.Entry.{Entry}
use Rattle.syntax_set.specs.declared.item.Entry.TheVariants.{Group, Cluster}
use Rattle.syntax_set.specs.ClusterTable.{ClusterList}
use Rattle.syntax_set.specs.ClusterLists.{with_entry, with_entries, BeginsWith}
use Rattle.syntax_set.proofs.NumberLaws.{Extends, extends_further, with_number-extends, takes_front}

groups_extend : (list : ClusterList) (entries : List Entry) → Extends list.groups (with_entries list entries).groups
groups_extend list [] = record { rest = []; whole = sym (append-nil list.groups) }
groups_extend list (Group group ∷ entries) =
    let more = with_entry list (Group group) in
    extends_further list.groups more.groups (with_entries more entries).groups (with_number-extends list.groups group.0) (groups_extend more entries)
groups_extend list (Cluster cluster ∷ entries) = groups_extend (with_entry list (Cluster cluster)) entries

clusters_extend : (list : ClusterList) (entries : List Entry) → Extends list.clusters (with_entries list entries).clusters
clusters_extend list [] = record { rest = []; whole = sym (append-nil list.clusters) }
clusters_extend list (Group group ∷ entries) = clusters_extend (with_entry list (Group group)) entries
clusters_extend list (Cluster cluster ∷ entries) =
    let more = with_entry list (Cluster cluster) in
    extends_further list.clusters more.clusters (with_entries more entries).clusters (with_number-extends list.clusters cluster) (clusters_extend more entries)

pub with_entries-begins : (list : ClusterList) (entries : List Entry) → BeginsWith (with_entries list entries) list
with_entries-begins list entries = record {
  groups = takes_front list.groups (with_entries list entries).groups (groups_extend list entries);
  clusters = takes_front list.clusters (with_entries list entries).clusters (clusters_extend list entries);
}
