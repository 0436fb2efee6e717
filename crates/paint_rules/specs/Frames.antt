-- What the state keeps of an open item.
use Rattle.std.specs.Prelude.{ℕ, List, Option}
use Rattle.syn_base.specs.declared.places.GroupId.{GroupId}
use Rattle.syn_base.specs.declared.places.ItemId.{ItemId}
use Rattle.paint_rules.specs.declared.Part.{Part}
use Rattle.paint_rules.specs.declared.Spot.{Spot}

pub record Frame : Type 0 where
  pub item : ItemId
  pub part : Part
  -- the group that it shows
  pub shows : GroupId
  pub known_end : Option Spot
  -- where its highlight begins and ends
  pub high_from : Spot
  pub high_to : Option Spot
  -- of a region's body: where its end area and that area's highlight end, and the group that the area shows
  pub area_end : Option Spot
  pub area_high : Option Spot
  pub area_shows : Option GroupId
  -- where a search for its end begins
  pub search : Spot
  -- the nine texts of its start's external groups
  pub externals : List (List ℕ)
