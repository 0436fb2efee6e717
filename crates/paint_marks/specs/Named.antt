-- Where each list and each cluster names a mark just where it names its old group, a syntax and its
-- marked form have the same items in each list.
use Rattle.std.specs.Prelude.{◌≡◌, ℕ, List, length, get_or, Option}
use Rattle.std.specs.Prelude.{Some, None}
use Rattle.syn_base.specs.declared.places.GroupId.{GroupId}
use Rattle.syn_base.specs.declared.places.ItemId.{ItemId}
use Rattle.syntax_set.specs.Allowed.{is_in_next}
use Rattle.syntax_set.specs.ClusterLists.{clusters_in, groups_in, list_at}
use Rattle.syntax_set.specs.ClusterTable.{ClusterList}
use Rattle.syntax_set.specs.Numbers.{has_number}
use Rattle.syntax_set.specs.declared.added_item.AddedItem.{AddedItem}
use Rattle.syntax_set.specs.declared.item.GroupList.{GroupList}
use Rattle.syntax_set.specs.declared.item.Item.{Item}
use Rattle.paint_rules.specs.Rules.{Rules, item_of, no_added}
use Rattle.paint_marks.specs.Marked.{in_old_groups, with_lists_of, AreMarked}
use Rattle.paint_marks.specs.OldGroups.{OldGroups}

-- the item of a number with its liveness, live or not
abbrev pub added_of : List AddedItem → ItemId → AddedItem
added_of items i = get_or items i.0 no_added

-- a list and its marked form: that one names a group where this one names its old one
pub record NamesAlike (old : OldGroups) (group : GroupId) (marked list : GroupList) : Type 0 where
  pub special : list.special ≡ marked.special
  pub groups : has_number (groups_in list.entries) (old group).0
      ≡ has_number (groups_in marked.entries) group.0
  pub clusters : clusters_in list.entries ≡ clusters_in marked.entries

-- the same of an option that may be absent, in both
abbrev pub NameAlike : OldGroups → GroupId → Option GroupList → Option GroupList → Type 0
NameAlike old group None None = Unit {0}
NameAlike old group (Some marked) (Some list) = NamesAlike old group marked list
NameAlike old group _ _ = ⊥

-- the same of a cluster, which names the same clusters
pub record ClusterNamesAlike (old : OldGroups) (group : GroupId) (marked list : ClusterList) :
    Type 0 where
  pub groups : has_number list.groups (old group).0 ≡ has_number marked.groups group.0
  pub clusters : (n : ℕ) → has_number list.clusters n ≡ has_number marked.clusters n

-- the lists of an item and of its marked form
pub record ItemNamesAlike (old : OldGroups) (group : GroupId) (marked item : Item) : Type 0 where
  pub contains : NameAlike old group marked.contains item.contains
  pub containedin : NameAlike old group marked.containedin item.containedin
  pub nextgroup : NameAlike old group marked.nextgroup item.nextgroup

-- an item and its marked form, whatever their lists
pub record IsMarkedButLists (old : OldGroups) (marked added : AddedItem) : Type 0 where
  pub live : added.live ≡ marked.live
  pub same : added.item ≡ with_lists_of added.item (in_old_groups old marked.item)

-- a syntax and its marked form, by their lists: those name the group of each item alike
pub record AreMarkedWithLists (old : OldGroups) (marked r : Rules) : Type 0 where
  pub as_many : length r.items ≡ length marked.items
  pub each : (i : ItemId) → IsMarkedButLists old (added_of marked.items i) (added_of r.items i)
  pub lists : (of i : ItemId) →
      ItemNamesAlike old (item_of marked.items of).group (item_of marked.items i)
      (item_of r.items i)
  pub clusters : (of : ItemId) (cluster : ℕ) →
      ClusterNamesAlike old (item_of marked.items of).group (list_at marked.lists cluster)
      (list_at r.lists cluster)
  pub else_same : r ≡ record marked { items = r.items; lists = r.lists }

-- the law
abbrev pub ListsAreEnough : Type 0
ListsAreEnough =
    (old : OldGroups) (marked r : Rules) → AreMarkedWithLists old marked r → AreMarked old marked r

-- and any two lists that name the group of an item alike have it, or not, both
abbrev pub MembersAreTheSame : Type 0
MembersAreTheSame =
    (old : OldGroups) (marked r : Rules) → AreMarkedWithLists old marked r →
    (i : ItemId) (list own : GroupList) → NamesAlike old (item_of marked.items i).group list own →
    is_in_next r.items r.lists i own ≡ is_in_next marked.items marked.lists i list
