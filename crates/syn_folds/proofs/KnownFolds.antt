-- Levels, folds and views of a few lines, worked by hand.
use Rattle.std.proofs.Common.{◌≡◌, ℕ, true, List, [], ◌∷◌, refl}
use Rattle.std.specs.Prelude.{None}
use Rattle.syntax_set.specs.Items.{plain_item}
use Rattle.syntax_set.specs.declared.added_item.AddedItem.{AddedItem}
use Rattle.paint_rules.specs.Frames.{Frame}
use Rattle.paint_rules.specs.States.{State}
use Rattle.paint_rules.specs.declared.Part.{Part}
use Rattle.paint_rules.specs.declared.Part.TheVariants.{Body, EndArea, Keyword, StartArea}
use Rattle.paint_rules.specs.declared.Spot.TheVariants.{Past}
use Rattle.syn_folds.specs.declared.rows.Row.TheVariants.{Closed, Line}
use Rattle.syn_folds.specs.declared.stretches.Fold.{Fold}
use Rattle.syn_folds.specs.Folds.{folds_of}
use Rattle.syn_folds.specs.Levels.{fold_count, line_level}
use Rattle.syn_folds.specs.View.{view_of}

-- a plain item, and one with `fold`
abbrev items : List AddedItem
items =
    record { item = plain_item (record { 0 = 0 }); live = true }
    ∷ record { item = record (plain_item (record { 0 = 1 })) { fold = true }; live = true }
    ∷ []

abbrev frame : ℕ → Part → Frame
frame item part = record {
  item = record { 0 = item };
  part = part;
  shows = record { 0 = 0 };
  known_end = None;
  high_from = Past;
  high_to = None;
  area_end = None;
  area_high = None;
  area_shows = None;
  search = Past;
  externals = [];
}

abbrev state : List Frame → State
state frames = record { stack = frames; waiting = None }

-- the body and the end area count, of an item with `fold` alone, and of one that is there
counted : fold_count items (state (frame 1 Body ∷ frame 1 StartArea ∷ frame 1 EndArea ∷ frame 1 Keyword ∷ frame 0 Body ∷ frame 2 Body ∷ [])) ≡ 2
counted = refl

before_it : line_level items (state (frame 1 Body ∷ frame 1 Body ∷ [])) (state (frame 1 Body ∷ [])) ≡ 2
before_it = refl

behind_it : line_level items (state []) (state (frame 1 Body ∷ [])) ≡ 1
behind_it = refl

abbrev fold_of : ℕ → ℕ → ℕ → Fold
fold_of first last level = record { first = first; last = last; level = level }

-- a block in a block, and a line behind both
one_in_another : folds_of (1 ∷ 2 ∷ 2 ∷ 1 ∷ 0 ∷ []) ≡ fold_of 0 3 1 ∷ fold_of 1 2 2 ∷ []
one_in_another = refl

the_inner_closed : view_of 1 (1 ∷ 2 ∷ 2 ∷ 1 ∷ 0 ∷ []) ≡ Line 0 ∷ Closed 1 2 ∷ Line 3 ∷ Line 4 ∷ []
the_inner_closed = refl

all_closed : view_of 0 (1 ∷ 2 ∷ 2 ∷ 1 ∷ 0 ∷ []) ≡ Closed 0 3 ∷ Line 4 ∷ []
all_closed = refl

none_closed : view_of 2 (1 ∷ 2 ∷ 2 ∷ 1 ∷ 0 ∷ []) ≡ Line 0 ∷ Line 1 ∷ Line 2 ∷ Line 3 ∷ Line 4 ∷ []
none_closed = refl

-- two blocks that begin at one line, the outer one first; a line alone is a fold, and no closed row
two_at_once : folds_of (2 ∷ 1 ∷ 0 ∷ 1 ∷ []) ≡ fold_of 0 1 1 ∷ fold_of 0 0 2 ∷ fold_of 3 3 1 ∷ []
two_at_once = refl

one_alone : view_of 0 (2 ∷ 1 ∷ 0 ∷ 1 ∷ []) ≡ Closed 0 1 ∷ Line 2 ∷ Line 3 ∷ []
one_alone = refl

-- blocks that touch are one stretch
touching : folds_of (1 ∷ 1 ∷ 3 ∷ 1 ∷ []) ≡ fold_of 0 3 1 ∷ fold_of 2 2 2 ∷ fold_of 2 2 3 ∷ []
touching = refl

no_lines : folds_of [] ≡ []
no_lines = refl
