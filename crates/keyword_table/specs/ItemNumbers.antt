-- The numbers of the items that keywords start.
use Rattle.std.specs.Prelude.{ℕ, ◌<◌, List}
use Rattle.std.specs.List.{All}
use Rattle.keyword_table.specs.declared.table.Definition.{Definition}

-- each definition starts an item whose number is below the bound
abbrev pub AreItemsBelow : ℕ → List Definition → Type 0
AreItemsBelow bound definitions = All (λ definition. definition.item.0 < bound) definitions
