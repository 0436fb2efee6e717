-- Marks of items.
use Rattle.std.specs.Prelude.{◌≡◌, ◌<◌, Bool, false, List, length, get_or}
use Rattle.std.specs.List.{list_any}
use Rattle.syn_base.specs.declared.places.ItemId.{ItemId}
use Rattle.paint_rules.specs.Rules.{same_item}

-- each item that has a mark is marked just where it is one of these
abbrev pub AreMarks : List Bool → List ItemId → Type 0
AreMarks marks items =
    (id : ItemId) → id.0 < length marks → get_or marks id.0 false ≡ list_any (same_item id) items
