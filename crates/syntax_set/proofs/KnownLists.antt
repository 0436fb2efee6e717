-- What lists have, worked by hand.
use Rattle.std.proofs.Common.{◌≡◌, ℕ, zero, suc, ◌+◌, Bool, true, false, List, [], ◌∷◌, Some, None, map, refl}
use Rattle.std.specs.Prelude.{codes}
use Rattle.syn_base.specs.declared.places.ItemId.{ItemId}
use Rattle.syntax_set.specs.declared.added_item.AddedItem.{AddedItem}
use Rattle.syntax_set.specs.declared.clusters.Change.TheVariants.{Set, Add, Remove}
use Rattle.syntax_set.specs.declared.item.Entry.{Entry}
use Rattle.syntax_set.specs.declared.item.Entry.TheVariants.{Group, Cluster}
use Rattle.syntax_set.specs.declared.item.GroupList.{GroupList}
use Rattle.syntax_set.specs.declared.item.Item.{Item}
use Rattle.syntax_set.specs.declared.item.Special.{Special}
use Rattle.syntax_set.specs.declared.item.Special.TheVariants.{Plain, All, AllBut, Top, Contained, Nothing}
use Rattle.syntax_set.specs.ClusterTable.{ClusterList, no_list, no_clusters}
use Rattle.syntax_set.specs.ClusterLists.{changed, with_cluster, IsListOf}
use Rattle.syntax_set.specs.Items.{plain_item, with_item}
use Rattle.syntax_set.specs.Membership.{cluster_has, entries_have, is_member}
use Rattle.syntax_set.specs.Allowed.{is_allowed, is_in_next, cleared}

-- an item of a group, with what decides where it may start
abbrev pub item_of : ℕ → Bool → ℕ → Item
item_of group contained include = record (plain_item (record { 0 = group })) { contained = contained; include = include }

abbrev pub live_item : ℕ → Bool → ℕ → AddedItem
live_item group contained include = record { item = item_of group contained include; live = true }

abbrev pub group : ℕ → Entry
group number = Group (record { 0 = number })

abbrev pub list_of : Special → List Entry → GroupList
list_of special entries = record { special = special; entries = entries }

-- each of so many clusters names the next one alone, and the last one names group 7
abbrev pub chain : ℕ → ℕ → List ClusterList
chain first zero = record { groups = 7 ∷ []; clusters = [] } ∷ []
chain first (suc more) = record { groups = []; clusters = (first + 1) ∷ [] } ∷ chain (first + 1) more

-- a cluster at depth 30 counts
thirty_levels : cluster_has (chain 0 29) 30 7 0 ≡ true
unfolding cluster_has
thirty_levels = refl

-- one at depth 31 has nothing
level_too_deep : cluster_has (chain 0 30) 30 7 0 ≡ false
unfolding cluster_has
level_too_deep = refl

-- clusters that name each other
abbrev pub ring : List ClusterList
ring = record { groups = 1 ∷ []; clusters = 1 ∷ [] } ∷ record { groups = 2 ∷ []; clusters = 0 ∷ 9 ∷ [] } ∷ []

named_by_the_other : entries_have ring (Cluster 0 ∷ []) (record { 0 = 2 }) ≡ true
unfolding cluster_has
named_by_the_other = refl

-- a cluster that isn't there has nothing
no_such_cluster : entries_have ring (Cluster 9 ∷ []) (record { 0 = 1 }) ≡ false
unfolding cluster_has
no_such_cluster = refl

-- `ALL` has all items, whatever else the list names, and `NONE` none
all_items : is_member [] (list_of All (group 3 ∷ [])) 0 (live_item 5 true 4) ≡ true
all_items = refl

no_items : is_member [] (list_of Nothing (group 5 ∷ [])) 0 (live_item 5 true 0) ≡ false
no_items = refl

-- `ALLBUT` takes away what its clusters have
all_but_a_cluster : is_member ring (list_of AllBut (Cluster 1 ∷ [])) 0 (live_item 1 false 0) ≡ false
unfolding cluster_has
all_but_a_cluster = refl

-- `TOP` and `CONTAINED` go by the include of the list's owner
top_of_an_include : is_member [] (list_of Top []) 2 (live_item 5 false 2) ≡ true
top_of_an_include = refl

top_elsewhere : is_member [] (list_of Top []) 0 (live_item 5 false 2) ≡ false
top_elsewhere = refl

top_less_a_group : is_member [] (list_of Top (group 5 ∷ [])) 2 (live_item 5 false 2) ≡ false
top_less_a_group = refl

contained_is_no_top : is_member [] (list_of Contained []) 2 (live_item 5 false 2) ≡ false
contained_is_no_top = refl

contained_of_an_include : is_member [] (list_of Contained []) 2 (live_item 5 true 2) ≡ true
contained_of_an_include = refl

-- item 0 contains group 1, item 1 is of that group, item 2 may stand in group 0, item 3 is of an include
abbrev pub some_items : List AddedItem
some_items =
    record { item = record (item_of 0 false 0) { contains = Some (list_of Plain (group 1 ∷ [])) }; live = true }
    ∷ live_item 1 true 0
    ∷ record { item = record (item_of 2 true 0) { containedin = Some (list_of Plain (group 0 ∷ [])) }; live = true }
    ∷ live_item 3 false 1
    ∷ []

abbrev pub numbered : ℕ → ItemId
numbered number = record { 0 = number }

contained_waits : is_allowed some_items [] (numbered 1) None ≡ false
contained_waits = refl

in_its_container : is_allowed some_items [] (numbered 1) (Some (numbered 0)) ≡ true
in_its_container = refl

by_containedin : is_allowed some_items [] (numbered 2) (Some (numbered 0)) ≡ true
by_containedin = refl

not_in_itself : is_allowed some_items [] (numbered 0) (Some (numbered 0)) ≡ false
not_in_itself = refl

included_waits : is_allowed some_items [] (numbered 3) None ≡ false
included_waits = refl

top_level : is_allowed some_items [] (numbered 0) None ≡ true
top_level = refl

-- `nextgroup=TOP` has no item of an include
next_outside_includes : is_in_next some_items [] (numbered 3) (list_of Top []) ≡ false
next_outside_includes = refl

-- an item that was cleared may start nowhere, and nothing may start in it by `containedin`
abbrev pub after_clear : List AddedItem
after_clear = map (cleared (Some (record { 0 = 0 }))) some_items

cleared_item : is_allowed after_clear [] (numbered 0) None ≡ false
cleared_item = refl

in_a_cleared_item : is_allowed after_clear [] (numbered 2) (Some (numbered 0)) ≡ false
in_a_cleared_item = refl

-- `contains=A,@B,A add=C remove=A`, where A, C are groups 1, 3 and B is cluster 0
set_names_once : changed Set (record { groups = 9 ∷ []; clusters = [] }) (group 1 ∷ Cluster 0 ∷ group 1 ∷ []) ≡ record { groups = 1 ∷ []; clusters = 0 ∷ [] }
set_names_once = refl

added_behind : changed Add (record { groups = 1 ∷ []; clusters = 0 ∷ [] }) (group 3 ∷ group 1 ∷ []) ≡ record { groups = 1 ∷ 3 ∷ []; clusters = 0 ∷ [] }
added_behind = refl

removed : changed Remove (record { groups = 1 ∷ 3 ∷ []; clusters = 0 ∷ [] }) (group 1 ∷ Cluster 5 ∷ []) ≡ record { groups = 3 ∷ []; clusters = 0 ∷ [] }
removed = refl

-- a cluster keeps the name that it was first given
first_name : with_cluster (with_cluster no_clusters (codes "Sub")) (codes "sUB") ≡ record { names = codes "Sub" ∷ []; lists = no_list ∷ [] }
first_name = refl

-- a list shows what was named first in front; where clusters stand among groups is free
shown_list : IsListOf (record { groups = 1 ∷ 3 ∷ []; clusters = 0 ∷ [] }) (list_of Plain (group 1 ∷ Cluster 0 ∷ group 3 ∷ []))
shown_list = record { plain = refl; groups = refl; clusters = refl }

-- an item that is added dead stands behind the others, and starts nowhere
added_dead : is_allowed (with_item false [] (item_of 5 false 0)) [] (numbered 0) None ≡ false
added_dead = refl

added_live : is_allowed (with_item true [] (item_of 5 false 0)) [] (numbered 0) None ≡ true
added_live = refl
