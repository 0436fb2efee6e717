-- Which items a container, or a wait, admits.
use Rattle.std.specs.Prelude.{Bool, false, Option, Some, None}
use Rattle.syn_base.specs.declared.places.ItemId.{ItemId}
use Rattle.syntax_set.specs.declared.item.GroupList.{GroupList}
use Rattle.syntax_set.specs.Allowed.{is_allowed, is_in_next}
use Rattle.paint_rules.specs.Rules.{Rules, item_of}

-- whether an item is allowed in a known container, or on the empty stack
abbrev pub is_allowed_in : Rules → Option ItemId → ItemId → Bool
is_allowed_in r container i = is_allowed r.items r.lists i container

abbrev pub is_in_list : Rules → Option GroupList → ItemId → Bool
is_in_list r None i = false
is_in_list r (Some list) i = is_in_next r.items r.lists i list

-- whether the nextgroup of a waiting item has the item
abbrev pub is_next : Rules → ItemId → ItemId → Bool
is_next r waiting i = is_in_list r (item_of r.items waiting).nextgroup i
