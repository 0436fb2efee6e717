-- Items and the patterns that attempts are made with, by number: they are sound together if each pattern
-- of an item was added under its number, and the tree there is its own.
use Rattle.std.specs.Prelude.{◌≡◌, List, slice_get, Some}
use Rattle.std.specs.List.{All}
use Rattle.std.specs.Option.{ForSome}
use Rattle.std.specs.declared.option.Option.{Option}
use Rattle.vim_pattern.specs.Tree.{PatternTree}
use Rattle.syntax_set.specs.declared.added_item.AddedItem.{AddedItem}
use Rattle.syntax_set.specs.declared.item.ItemKind.{ItemKind}
use Rattle.syntax_set.specs.declared.item.ItemKind.TheVariants as kind
use Rattle.syntax_set.specs.declared.item.Pattern.{Pattern}

-- the tree of this number is that of the pattern
abbrev pub IsAdded : List PatternTree → Pattern → Type 0
IsAdded trees pattern = slice_get trees pattern.id.0 ≡ Some pattern.tree

pub record AreRegionAdded (trees : List PatternTree) (starts : List Pattern) (skip : Option Pattern) (ends : List Pattern) : Type 0 where
  pub starts_added : All (IsAdded trees) starts
  pub skip_added : ForSome skip (IsAdded trees)
  pub ends_added : All (IsAdded trees) ends

-- all patterns of an item
abbrev pub AreKindAdded : List PatternTree → ItemKind → Type 0
AreKindAdded trees kind.Keyword = Unit {0}
AreKindAdded trees (kind.Match pattern) = IsAdded trees pattern
AreKindAdded trees (kind.Region starts skip ends) = AreRegionAdded trees starts skip ends

abbrev pub HasAdded : List PatternTree → AddedItem → Type 0
HasAdded trees added = AreKindAdded trees added.item.kind

-- the same of all items, live or not
abbrev pub AreSound : List AddedItem → List PatternTree → Type 0
AreSound items trees = All (HasAdded trees) items
