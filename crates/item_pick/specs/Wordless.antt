-- Choices of which no word starts an item.
use Rattle.std.specs.Prelude.{◌≡◌, ℕ, false}
use Rattle.std.specs.List.{All}
use Rattle.syn_base.specs.declared.places.ItemId.{ItemId}
use Rattle.syntax_set.specs.declared.item.ItemKind.TheVariants.{Keyword}
use Rattle.paint_rules.specs.Rules.{Rules, item_of}
use Rattle.item_pick.specs.declared.choice.Choice.{Choice}
use Rattle.item_pick.specs.Quiet.{item_numbered}
use Rattle.item_pick.specs.Standing.{IsItem}
use Rattle.item_pick.specs.Started.{admits}

-- an item that is there and is a keyword
abbrev pub StartsByWord : Rules → ItemId → Type 0
StartsByWord r i = IsItem r i × ((item_of r.items i).kind ≡ Keyword)

-- each word of a syntax starts such an item
abbrev pub AllStartByWord : Rules → Type 0
AllStartByWord r = All (λ definition. StartsByWord r definition.item) r.keywords

-- a choice has no keyword
abbrev pub HasNoKeyword : Rules → Choice → Type 0
HasNoKeyword r choice =
    (j : ℕ) → StartsByWord r (item_numbered j) → admits r choice (item_numbered j) ≡ false

-- a choice has no item that a word starts
abbrev pub IsWordless : Rules → Choice → Type 0
IsWordless r choice = All (λ definition. admits r choice definition.item ≡ false) r.keywords
