-- Which items may start (Vim's help, :syn-contains, :syn-containedin, :syn-contained).
use Rattle.std.specs.Prelude.{Bool, false, not, ◌&&◌, ◌||◌, List, nat_eq, slice_get, Option, Some, None, if◌then◌else◌}
use Rattle.syn_base.specs.declared.places.GroupId.{GroupId}
use Rattle.syn_base.specs.declared.places.ItemId.{ItemId}
use Rattle.syntax_set.specs.declared.item.GroupList.{GroupList}
use Rattle.syntax_set.specs.declared.added_item.AddedItem.{AddedItem}
use Rattle.syntax_set.specs.ClusterTable.{ClusterList}
use Rattle.syntax_set.specs.Membership.{is_member, is_member_of_option}

-- on an empty stack: the live items that were written without `contained`, outside all includes
abbrev pub is_free : AddedItem → Bool
is_free added = added.live && not added.item.contained && nat_eq added.item.include 0

-- in a container: its `contains` has the item, or the item's own `containedin` has the container's item
abbrev pub is_allowed_in : List ClusterList → AddedItem → AddedItem → Bool
is_allowed_in lists added container =
    added.live
    && (is_member_of_option lists container.item.contains container.item.include added
    || is_member_of_option lists added.item.containedin added.item.include container)

-- a test of the item of a number
abbrev pub passes : (AddedItem → Bool) → Option AddedItem → Bool
passes test None = false
passes test (Some added) = test added

-- whether an item may start on an empty stack, or in a container
abbrev pub is_allowed : List AddedItem → List ClusterList → ItemId → Option ItemId → Bool
is_allowed items lists id None = passes is_free (slice_get items id.0)
is_allowed items lists id (Some container) =
    passes (λ added. passes (is_allowed_in lists added) (slice_get items container.0)) (slice_get items id.0)

-- whether a `nextgroup` has an item: it counts as owned outside all includes
abbrev pub is_in_next : List AddedItem → List ClusterList → ItemId → GroupList → Bool
is_in_next items lists id list = passes (is_member lists list 0) (slice_get items id.0)

-- whether the `nextgroup` of an item has another
abbrev pub follows : List AddedItem → List ClusterList → ItemId → ItemId → Bool
follows items lists id other =
    passes (λ owner. passes (is_member_of_option lists owner.item.nextgroup 0) (slice_get items id.0)) (slice_get items other.0)

-- an item no longer live
abbrev pub dead : AddedItem → AddedItem
dead added = record added { live = false }

-- an item after `:syn-clear` of a group, or of all
abbrev pub cleared : Option GroupId → AddedItem → AddedItem
cleared None added = dead added
cleared (Some group) added = if nat_eq added.item.group.0 group.0 then dead added else added
