-- The level of a line: how much is open before or after it of what makes folds (Vim's help, :syn-fold).
use Rattle.std.specs.Prelude.{ℕ, Bool, true, false, ◌&&◌, List, count_by, max, min, slice_get}
use Rattle.std.specs.Option.{option_map_or}
use Rattle.syn_base.specs.declared.places.ItemId.{ItemId}
use Rattle.syntax_set.specs.declared.added_item.AddedItem.{AddedItem}
use Rattle.paint_rules.specs.Frames.{Frame}
use Rattle.paint_rules.specs.States.{State}
use Rattle.paint_rules.specs.declared.Part.{Part}
use Rattle.paint_rules.specs.declared.Part.TheVariants.{Body, StartArea, EndArea, Keyword}

-- a region's fold is its body and its end area; a keyword makes none
abbrev pub is_in_fold : Part → Bool
is_in_fold Body = true
is_in_fold StartArea = false
is_in_fold EndArea = true
is_in_fold Keyword = false

-- the item has `fold`; there is none behind the last item
abbrev pub has_fold : List AddedItem → ItemId → Bool
has_fold items id = option_map_or (λ added. (added.item).fold) (slice_get items id.0) false

abbrev pub is_counted : List AddedItem → Frame → Bool
is_counted items f = is_in_fold f.part && has_fold items f.item

-- the count of a stack
abbrev pub fold_count : List AddedItem → State → ℕ
fold_count items s = count_by (is_counted items) s.stack

-- the greater count of the states before and after the line, at most 20
abbrev pub line_level : List AddedItem → State → State → ℕ
line_level items before after = min (max (fold_count items before) (fold_count items after)) 20
