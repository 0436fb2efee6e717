-- What a run says of a place.
use Rattle.std.specs.Prelude.{◌≡◌, ◌<◌, ◌≤◌, ℕ, Some, pos}
use Rattle.syn_base.specs.Looked.{one_line}
use Rattle.syn_base.specs.declared.looked.Looked.{Looked}
use Rattle.syn_base.specs.declared.places.ItemId.{ItemId}
use Rattle.item_pick.specs.declared.runs.Run.{Run}
use Rattle.item_pick.specs.Screens.{HoldsLines}

-- it is of this item, holds a column or ends there, and tells of a place
pub record TellsOf (item : ItemId) (col at : ℕ) (run : Run) : Type 0 where
  pub same : run.item ≡ item
  pub from : run.from ≤ col
  pub to : col ≤ run.to
  pub above : run.places.first ≤ at
  pub below : at < run.places.end

-- the item isn't matched where it is sought at a place, with a floor, from any column before an end, and
-- the lines that tell so were looked at
pub record Covers (run : Run) (item : ItemId) (at floor : ℕ) (looked : Looked) (end : ℕ) : Type 0 where
  pub same : run.item ≡ item
  pub to : end ≤ run.to
  pub above : run.places.first ≤ at
  pub below : at < run.places.end
  pub held : HoldsLines looked run.looked
  pub enough : (least : ℕ) × (run.least ≡ Some least) × (least ≤ floor)

-- it tells so of all places of a line that has so many columns, its end included, whatever the floor, and
-- by that line alone
pub record IsWhole (run : Run) (line count : ℕ) : Type 0 where
  pub least : run.least ≡ Some 0
  pub above : run.places.first ≡ 0
  pub below : count ≤ run.places.end
  pub to : count ≤ run.to
  pub looked : run.looked ≡ one_line (pos line)
