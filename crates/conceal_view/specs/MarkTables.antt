-- Marks as the code keeps them.
use Rattle.std.specs.Prelude.{ℕ, Bool, List, [], slice_index_or}
use Rattle.syntax_set.specs.declared.added_item.AddedItem.{AddedItem}
use Rattle.syntax_set.specs.declared.item.Item.{Item}

-- groups whose marks are numbered from a number on
pub record AreaMarks : Type 0 where
  pub first : ℕ
  pub groups : List ℕ

-- the marks of a group in a table of those of all groups
abbrev pub numbers_at : List (List ℕ) → ℕ → List ℕ
numbers_at table group = slice_index_or table group []

-- an item with its liveness
abbrev pub added_as : Bool → Item → AddedItem
added_as live item = record { item = item; live = live }
