-- What the lists of an item name, kept by number: the groups and the clusters, each once. It is asked in
-- place of the entries, of which there may be many.
use Rattle.std.specs.Prelude.{◌≡◌, Bool, ◌||◌, List, Option, None, Some, Box}
use Rattle.std.specs.declared.alloc.Global.{Global}
use Rattle.std.specs.List.{list_any}
use Rattle.syn_base.specs.declared.places.GroupId.{GroupId}
use Rattle.syntax_set.specs.declared.item.GroupList.{GroupList}
use Rattle.syntax_set.specs.declared.item.Item.{Item}
use Rattle.syntax_set.specs.declared.list_names.ListNames.{ListNames}
use Rattle.syntax_set.specs.Numbers.{has_number}
use Rattle.syntax_set.specs.ClusterTable.{ClusterList, no_list}
use Rattle.syntax_set.specs.ClusterLists.{with_entries}
use Rattle.syntax_set.specs.Membership.{cluster_has}

-- nothing is kept of a list, or what its entries name
abbrev pub IsNamedBy : Option GroupList → Option ClusterList → Type 0
IsNamedBy list None = Unit {0}
IsNamedBy None (Some named) = ⊥
IsNamedBy (Some list) (Some named) = named ≡ with_entries no_list list.entries

-- so of each list of an item
pub record AreNames (names : ListNames) (item : Item) : Type 0 where
  pub contains : IsNamedBy item.contains names.contains
  pub containedin : IsNamedBy item.containedin names.containedin
  pub nextgroup : IsNamedBy item.nextgroup names.nextgroup

-- or nothing is kept of the item
abbrev pub AreNamedBy : Option (Box ListNames Global) → Item → Type 0
AreNamedBy None item = Unit {0}
AreNamedBy (Some names) item = AreNames names.value item

-- whether the group is named, or a cluster that has it
abbrev pub named_has : List ClusterList → ClusterList → GroupId → Bool
named_has lists named group =
    has_number named.groups group.0 || list_any (cluster_has lists 30 group.0) named.clusters
