-- Items as they are made and added (Vim's help, :syn-define).
use Rattle.std.specs.Prelude.{Bool, false, List, [], ◌∷◌, ◌++◌, None}
use Rattle.syn_base.specs.declared.places.GroupId.{GroupId}
use Rattle.syntax_set.specs.declared.item.Item.{Item}
use Rattle.syntax_set.specs.declared.item.ItemKind.TheVariants.{Keyword}
use Rattle.syntax_set.specs.declared.added_item.AddedItem.{AddedItem}

-- a keyword item of which nothing is said but its group
abbrev pub plain_item : GroupId → Item
plain_item group = record {
  group = group;
  kind = Keyword;
  contained = false;
  include = 0;
  ignore = false;
  contains = None;
  containedin = None;
  nextgroup = None;
  skipwhite = false;
  skipnl = false;
  skipempty = false;
  transparent = false;
  oneline = false;
  keepend = false;
  extend = false;
  fold = false;
  conceal = false;
  concealends = false;
  cchar = None;
}

-- all items that were added with one more behind them, live or not
abbrev pub with_item : Bool → List AddedItem → Item → List AddedItem
with_item live items item = items ++ record { item = item; live = live } ∷ []
