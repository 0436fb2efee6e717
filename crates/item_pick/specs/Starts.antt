-- What starts, with the pattern that the answer names.
use Rattle.std.specs.Prelude.{◌≡◌, ◌<◌, List, Option, Some, length, slice_get}
use Rattle.syntax_set.specs.declared.added_item.AddedItem.{AddedItem}
use Rattle.syntax_set.specs.declared.item.ItemKind.TheVariants.{Match, Region}
use Rattle.syntax_set.specs.declared.item.Pattern.{Pattern}
use Rattle.paint_rules.specs.Rules.{item_of}
use Rattle.paint_rules.specs.Pick as rule
use Rattle.item_pick.specs.declared.starting.Starting.{Starting}
use Rattle.item_pick.specs.declared.starting.Starting.TheVariants as start

abbrev pub IsStarting : List AddedItem → Starting → rule.Starting → Type 0
IsStarting items (start.Word i end) s = (i.0 < length items) × (s ≡ rule.AWord i end)
IsStarting items (start.Matched i m) s =
    (i.0 < length items)
    × ((pattern : Pattern) × ((item_of items i).kind ≡ Match pattern) × (s ≡ rule.AMatch i pattern m))
IsStarting items (start.Empty i) s = (i.0 < length items) × (s ≡ rule.AnEmpty i)
IsStarting items (start.Region i n m end) s =
    (i.0 < length items)
    × ((starts : List Pattern) × (skip : Option Pattern) × (ends : List Pattern) × (pattern : Pattern)
    × ((item_of items i).kind ≡ Region starts skip ends) × (slice_get starts n ≡ Some pattern)
    × (s ≡ rule.ARegion i pattern m end))
