-- The kept end of a frame (Vim's help, :syn-keepend and :syn-extend). An item with `keepend` ends the frames above it
-- where it ends itself. A frame with `extend`, and those above it, pass such an end.
use Rattle.std.specs.Prelude.{Bool, true, false, nat_lt, nat_eq, ◌&&◌, ◌||◌, not, List, [], ◌∷◌, Option, Some, None}
use Rattle.syntax_set.specs.declared.added_item.AddedItem.{AddedItem}
use Rattle.paint_rules.specs.Frames.{Frame}
use Rattle.paint_rules.specs.declared.Part.{Part}
use Rattle.paint_rules.specs.declared.Part.TheVariants.{StartArea}
use Rattle.paint_rules.specs.declared.Spot.{Spot}
use Rattle.paint_rules.specs.declared.Spot.TheVariants.{Past, At}
use Rattle.paint_rules.specs.Rules.{item_of}

-- `Past` is before every other place
abbrev pub is_before : Spot → Spot → Bool
is_before Past Past = false
is_before Past (At _ _) = true
is_before (At _ _) Past = false
is_before (At k c) (At j d) = nat_lt k j || (nat_eq k j && nat_lt c d)

-- the earlier of two ends, where no end is later than every place
abbrev pub earlier_end : Option Spot → Option Spot → Option Spot
earlier_end None end = end
earlier_end (Some s) None = Some s
earlier_end (Some s) (Some t) = Some (elim (is_before t s) [ true ↦ t | false ↦ s ])

abbrev pub has_extend : List AddedItem → Frame → Bool
has_extend items f = (item_of items f.item).extend

abbrev pub has_keepend : List AddedItem → Frame → Bool
has_keepend items f = (item_of items f.item).keepend

abbrev pub is_start_area : Part → Bool
is_start_area StartArea = true
is_start_area _ = false

-- the end that a frame puts to the frames above it
abbrev pub limit_of : List AddedItem → Frame → Option Spot
limit_of items f = elim (has_keepend items f && not (is_start_area f.part)) [ true ↦ f.known_end | false ↦ None ]

-- the end that the frames of a stack, its top first, put to a frame above them: none from below the first with `extend`
abbrev pub limit_on : List AddedItem → List Frame → Option Spot
limit_on items [] = None
limit_on items (f ∷ below) = earlier_end (limit_of items f) (elim (has_extend items f) [ true ↦ None | false ↦ limit_on items below ])

-- the kept end of a frame over these
abbrev pub kept_end_over : List AddedItem → Frame → List Frame → Option Spot
kept_end_over items f below = earlier_end f.known_end (elim (has_extend items f) [ true ↦ None | false ↦ limit_on items below ])
