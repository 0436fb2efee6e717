-- Where a pick stands, as the rules see it.
use Rattle.std.specs.Prelude.{◌≡◌, ◌<◌, ◌≤◌, ◌^◌, ◌&&◌, ℕ, Bool, true, nat_eq, length, is_none, slice_get, Option, Some, None}
use Rattle.std.specs.Option.{ForSome}
use Rattle.syn_base.specs.declared.places.Place.{Place}
use Rattle.syn_base.specs.declared.places.ItemId.{ItemId}
use Rattle.match_rules.specs.Ways.{Text, line_at}
use Rattle.syntax_set.specs.declared.item.ItemKind.{ItemKind}
use Rattle.syntax_set.specs.declared.item.ItemKind.TheVariants.{Keyword, Match, Region}
use Rattle.syntax_set.specs.declared.item.Pattern.{Pattern}
use Rattle.paint_rules.specs.Frames.{Frame}
use Rattle.paint_rules.specs.Rules.{Rules, item_of}
use Rattle.paint_rules.specs.Close.{is_body}
use Rattle.paint_rules.specs.Pick.{WordFound}
use Rattle.item_pick.specs.declared.choice.Choice.{Choice}
use Rattle.item_pick.specs.declared.choice.Choice.TheVariants.{ListOf, Within, NoItem}
use Rattle.item_pick.specs.declared.starting.Word.{Word}
use Rattle.item_pick.specs.declared.picking.StartBy.{StartBy}

-- a place of a present line, in a text of few lines
pub record IsPlace (text : Text) (at : Place) : Type 0 where
  pub present : at.line < length text
  pub few : length text < 2 ^ 32
  pub within : at.col ≤ length (line_at text at.line)

abbrev pub IsItem : Rules → ItemId → Type 0
IsItem r i = i.0 < length r.items

-- the patterns by which an item starts
abbrev pub IsPatternOf : ItemKind → Pattern → Type 0
IsPatternOf Keyword pattern = ⊥
IsPatternOf (Match p) pattern = p ≡ pattern
IsPatternOf (Region starts skip ends) pattern = (n : ℕ) × (Some pattern ≡ slice_get starts n)

-- the first written of them
abbrev pub first_pattern : ItemKind → Option Pattern
first_pattern Keyword = None
first_pattern (Match p) = Some p
first_pattern (Region starts skip ends) = slice_get starts 0

-- no other pattern starts it
abbrev pub has_one_start : ItemKind → Bool
has_one_start (Region starts skip ends) = nat_eq (length starts) 1
has_one_start _ = true

abbrev pub IsFirst : Rules → ItemId → Pattern → Type 0
IsFirst r i pattern = first_pattern (item_of r.items i).kind ≡ Some pattern

-- a pattern by which this item starts
abbrev pub IsOwn : Rules → ItemId → Pattern → Type 0
IsOwn r i pattern = IsItem r i × IsPatternOf (item_of r.items i).kind pattern

-- the items that a choice names are there
abbrev pub ChoiceFits : Rules → Choice → Type 0
ChoiceFits r (ListOf w) = IsItem r w
ChoiceFits r (Within c) = ForSome c (IsItem r)
ChoiceFits r NoItem = Unit {0}

-- a frame that is passed over for what lies below it
abbrev pub is_clear : Rules → Frame → Bool
is_clear r f = is_body f.part && (item_of r.items f.item).transparent && is_none (item_of r.items f.item).contains

-- the word that starts
abbrev pub IsKeyword : Option Word → Option WordFound → Type 0
IsKeyword None found = found ≡ None
IsKeyword (Some word) found = found ≡ Some (record { item = word.item; end = word.end })

-- a start pattern of an item that is there; that of number 0 is its first
pub record IsStartOf (r : Rules) (by : StartBy) : Type 0 where
  pub own : IsOwn r by.item by.pattern.now
  pub first : by.number ≡ 0 → IsFirst r by.item by.pattern.now

-- the first start pattern of an item that is there
pub record IsFirstOf (r : Rules) (by : StartBy) : Type 0 where
  pub item : IsItem r by.item
  pub first : IsFirst r by.item by.pattern.now
