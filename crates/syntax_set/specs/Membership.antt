-- Which items a list has (Vim's help, :syn-contains, :syn-cluster).
use Rattle.std.specs.Prelude.{ℕ, zero, suc, Bool, true, false, not, ◌&&◌, ◌||◌, List, nat_eq, Option, Some, None}
use Rattle.std.specs.List.{list_any}
use Rattle.syn_base.specs.declared.places.GroupId.{GroupId}
use Rattle.syntax_set.specs.declared.item.Entry.{Entry}
use Rattle.syntax_set.specs.declared.item.Entry.TheVariants.{Group, Cluster}
use Rattle.syntax_set.specs.declared.item.GroupList.{GroupList}
use Rattle.syntax_set.specs.declared.item.Item.{Item}
use Rattle.syntax_set.specs.declared.item.Special.{Special}
use Rattle.syntax_set.specs.declared.item.Special.TheVariants.{Plain, All, AllBut, Top, Contained, Nothing}
use Rattle.syntax_set.specs.declared.added_item.AddedItem.{AddedItem}
use Rattle.syntax_set.specs.Numbers.{has_number}
use Rattle.syntax_set.specs.ClusterTable.{ClusterList}
use Rattle.syntax_set.specs.ClusterLists.{list_at}

-- Whether a cluster has a group: it names it, or it names a cluster that has it. So many levels of
-- clusters are followed, of which it is the first itself; what lies deeper counts as having nothing.
unfoldable pub cluster_has : List ClusterList → ℕ → ℕ → ℕ → Bool
cluster_has lists zero group cluster = false
cluster_has lists (suc levels) group cluster =
    has_number (list_at lists cluster).groups group || list_any (cluster_has lists levels group) (list_at lists cluster).clusters

-- whether an entry is the group or a cluster that has it, with clusters nested at most 30 deep
abbrev pub entry_has : List ClusterList → GroupId → Entry → Bool
entry_has lists group (Group named) = nat_eq group.0 named.0
entry_has lists group (Cluster cluster) = cluster_has lists 30 group.0 cluster

abbrev pub entries_have : List ClusterList → List Entry → GroupId → Bool
entries_have lists entries group = list_any (entry_has lists group) entries

-- Whether a list has a live item: by the names in it; all items; all but those that the names have; or, of
-- the items of the list owner's include, those written without `contained`, or with it, less the names.
abbrev pub has_by : List ClusterList → Special → List Entry → ℕ → Item → Bool
has_by lists Plain entries include item = entries_have lists entries item.group
has_by lists All entries include item = true
has_by lists AllBut entries include item = not (entries_have lists entries item.group)
has_by lists Top entries include item =
    nat_eq item.include include && not item.contained && not (entries_have lists entries item.group)
has_by lists Contained entries include item =
    nat_eq item.include include && item.contained && not (entries_have lists entries item.group)
has_by lists Nothing entries include item = false

-- whether an item is a member of a list whose owner has this include number; only live items are
abbrev pub is_member : List ClusterList → GroupList → ℕ → AddedItem → Bool
is_member lists list include added = added.live && has_by lists list.special list.entries include added.item

-- the same of an option that may be absent, and then has nothing
abbrev pub is_member_of_option : List ClusterList → Option GroupList → ℕ → AddedItem → Bool
is_member_of_option lists None include added = false
is_member_of_option lists (Some list) include added = is_member lists list include added
