-- The kept end of a frame by its number, that of the bottom one being 0.
use Rattle.std.specs.Prelude.{ℕ, suc, Bool, true, false, not, ◌&&◌, List, [], ◌∷◌, Option, None, reverse, take}
use Rattle.syntax_set.specs.declared.added_item.AddedItem.{AddedItem}
use Rattle.paint_rules.specs.Frames.{Frame}
use Rattle.paint_rules.specs.declared.Spot.{Spot}
use Rattle.paint_rules.specs.Rules.{item_of}
use Rattle.paint_rules.specs.KeptEnd.{kept_end_over}
use Rattle.state_stack.specs.declared.enders.Enders.{Enders}
use Rattle.state_stack.specs.declared.enders.Enders.TheVariants.{Nothing, One, Two, Three, Many}

-- of the first of these frames, which lies over the others
abbrev pub kept_end_of_first : List AddedItem → List Frame → Option Spot
kept_end_of_first items [] = None
kept_end_of_first items (f ∷ below) = kept_end_over items f below

abbrev pub kept_end : List AddedItem → List Frame → ℕ → Option Spot
kept_end items stack i = kept_end_of_first items (reverse (take (suc i) stack))

-- none of the items has `keepend`
abbrev pub keep_none : List AddedItem → Enders → Bool
keep_none items Nothing = true
keep_none items (One a) = not (item_of items a).keepend
keep_none items (Two a b) = not (item_of items a).keepend && not (item_of items b).keepend
keep_none items (Three a b c) =
    not (item_of items a).keepend && (not (item_of items b).keepend && not (item_of items c).keepend)
keep_none items Many = false
