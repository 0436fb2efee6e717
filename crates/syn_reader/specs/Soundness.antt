-- A syntax, as contracts see it, and what holds of each one that was read.
use Rattle.std.specs.Prelude.{ℕ, List, length}
use Rattle.char_class.specs.declared.sets.Sets.{Sets}
use Rattle.hi_links.specs.declared.highlight.Highlight.{Highlight}
use Rattle.keyword_table.specs.declared.table.Definition.{Definition}
use Rattle.keyword_table.specs.ItemNumbers.{AreItemsBelow}
use Rattle.syntax_set.specs.declared.added_item.AddedItem.{AddedItem}
use Rattle.syntax_set.specs.ClusterTable.{ClusterTable}
use Rattle.syntax_set.specs.Soundness.{AreSound}
use Rattle.vim_pattern.specs.Tree.{PatternTree}

-- the parts of a syntax
pub record SyntaxParts : Type 0 where
  pub items : List AddedItem
  pub clusters : ClusterTable
  pub groups : List (List ℕ)
  pub programs : List PatternTree
  pub keywords : List Definition
  pub links : List Highlight
  pub sets : Sets

-- Each pattern of an item was added under its number, and the tree there is its own. Each keyword starts an
-- item whose number is below the number of items ever added.
pub record IsSound (items : List AddedItem) (programs : List PatternTree) (keywords : List Definition) : Type 0 where
  pub patterns : AreSound items programs
  pub numbers : AreItemsBelow (length items) keywords
