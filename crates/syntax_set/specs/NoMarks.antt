-- Syntaxes that name no marks: each group that an item, a pattern, a list or a cluster names is below
-- 20,000, as many as there are at most. Who marks items uses the numbers behind.
use Rattle.std.specs.Prelude.{◌<◌, List}
use Rattle.std.specs.List.{All}
use Rattle.std.specs.Option.{ForSome}
use Rattle.std.specs.declared.option.Option.{Option}
use Rattle.syn_base.specs.declared.places.GroupId.{GroupId}
use Rattle.syntax_set.specs.ClusterTable.{ClusterList}
use Rattle.syntax_set.specs.declared.added_item.AddedItem.{AddedItem}
use Rattle.syntax_set.specs.declared.item.Entry.{Entry}
use Rattle.syntax_set.specs.declared.item.Entry.TheVariants.{Group, Cluster}
use Rattle.syntax_set.specs.declared.item.GroupList.{GroupList}
use Rattle.syntax_set.specs.declared.item.Item.{Item}
use Rattle.syntax_set.specs.declared.item.ItemKind.{ItemKind}
use Rattle.syntax_set.specs.declared.item.ItemKind.TheVariants.{Keyword, Match, Region}
use Rattle.syntax_set.specs.declared.item.Pattern.{Pattern}

abbrev pub IsNoMark : GroupId → Type 0
IsNoMark group = group.0 < 20000

abbrev pub EntryIsNoMark : Entry → Type 0
EntryIsNoMark (Group group) = IsNoMark group
EntryIsNoMark (Cluster cluster) = Unit {0}

abbrev pub ListHasNoMarks : GroupList → Type 0
ListHasNoMarks list = All EntryIsNoMark list.entries

abbrev pub PatternHasNoMark : Pattern → Type 0
PatternHasNoMark pattern = ForSome pattern.matchgroup IsNoMark

pub record RegionHasNoMarks (starts : List Pattern) (skip : Option Pattern) (ends : List Pattern) : Type 0 where
  pub starts_have_none : All PatternHasNoMark starts
  pub skip_has_none : ForSome skip PatternHasNoMark
  pub ends_have_none : All PatternHasNoMark ends

-- all patterns of an item
abbrev pub KindHasNoMarks : ItemKind → Type 0
KindHasNoMarks Keyword = Unit {0}
KindHasNoMarks (Match pattern) = PatternHasNoMark pattern
KindHasNoMarks (Region starts skip ends) = RegionHasNoMarks starts skip ends

pub record ItemHasNoMarks (item : Item) : Type 0 where
  pub group : IsNoMark item.group
  pub kind : KindHasNoMarks item.kind
  pub contains : ForSome item.contains ListHasNoMarks
  pub containedin : ForSome item.containedin ListHasNoMarks
  pub nextgroup : ForSome item.nextgroup ListHasNoMarks

abbrev pub AddedHasNoMarks : AddedItem → Type 0
AddedHasNoMarks added = ItemHasNoMarks added.item

abbrev pub ClusterHasNoMarks : ClusterList → Type 0
ClusterHasNoMarks list = All (λ group. group < 20000) list.groups

-- items, live or not, and the lists of clusters
pub record HaveNoMarks (items : List AddedItem) (lists : List ClusterList) : Type 0 where
  pub items_have_none : All AddedHasNoMarks items
  pub clusters_have_none : All ClusterHasNoMarks lists
