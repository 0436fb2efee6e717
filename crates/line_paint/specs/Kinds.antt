-- What is true of all frames of some kinds.
use Rattle.std.specs.Prelude.{Bool, true, false, not, ◌&&◌, List}
use Rattle.std.specs.List.{list_all}
use Rattle.syntax_set.specs.declared.added_item.AddedItem.{AddedItem}
use Rattle.paint_rules.specs.Frames.{Frame}
use Rattle.paint_rules.specs.Rules.{Rules, item_of}
use Rattle.paint_rules.specs.KeptEnd.{has_keepend}
use Rattle.paint_rules.specs.Line.{is_clear}
use Rattle.state_stack.specs.declared.kinds.Kind.{Kind}

-- its frames let what lies below them show, or its item has no `keepend`
abbrev pub is_so : List AddedItem → Bool → Kind → Bool
is_so items true k = not k.in_area && (item_of items k.item).transparent
is_so items false k = not (item_of items k.item).keepend

abbrev pub none_keeps : List AddedItem → List Frame → Bool
none_keeps items frames = list_all (λ f. not (has_keepend items f)) frames

abbrev pub all_clear : Rules → List Frame → Bool
all_clear r frames = list_all (λ f. is_clear r f f.part) frames
