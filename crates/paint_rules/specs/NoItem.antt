-- What stands for a number that no item has. The calls of the painter ask that frames fit the items, so they come to none.
use Rattle.std.specs.Prelude.{true, false, None}
use Rattle.syntax_set.specs.declared.added_item.AddedItem.{AddedItem}
use Rattle.syntax_set.specs.declared.item.Item.{Item}
use Rattle.syntax_set.specs.declared.item.ItemKind.TheVariants.{Keyword}

abbrev pub no_item : Item
no_item = record {
  group = record { 0 = 0 };
  kind = Keyword;
  contained = true;
  include = 0;
  ignore = false;
  contains = None;
  containedin = None;
  nextgroup = None;
  skipwhite = false;
  skipnl = false;
  skipempty = false;
  transparent = false;
  oneline = false;
  keepend = false;
  extend = false;
  fold = false;
  conceal = false;
  concealends = false;
  cchar = None;
}

abbrev pub no_added : AddedItem
no_added = record { item = no_item; live = false }
