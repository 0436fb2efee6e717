-- A syntax in which no item is live, as the empty one, paints nothing.
use Rattle.std.specs.Prelude.{◌≡◌, ℕ, suc, pos, false, List, [], ◌∷◌, Some, slice_get}
use Rattle.syn_base.specs.Looked.{one_line}
use Rattle.match_rules.specs.Ways.{Text}
use Rattle.syntax_set.specs.declared.added_item.AddedItem.{AddedItem}
use Rattle.paint_rules.specs.Rules.{Rules}
use Rattle.paint_rules.specs.States.{empty_state}
use Rattle.paint_rules.specs.Line.{Note, Whole, painting}

-- no item is live: none was defined, or all were cleared
abbrev pub HasNoLiveItem : Rules → Type 0
HasNoLiveItem r =
    (i : ℕ) (added : AddedItem) → Some added ≡ slice_get r.items i → added.live ≡ false

-- a line without spans, with nothing open before and after it, which looked at itself alone
abbrev pub blank_note : ℕ → Note
blank_note l =
    record {
      before = empty_state;
      spans = [];
      after = empty_state;
      looked = Some (one_line (pos l));
    }

-- such notes for some lines, from a line on
abbrev pub blank_notes : ℕ → List (List ℕ) → List Note
blank_notes l [] = []
blank_notes l (line ∷ lines) = blank_note l ∷ blank_notes (suc l) lines

-- the law
abbrev pub NothingIsPainted : Type 0
NothingIsPainted = (r : Rules) (t : Text) → HasNoLiveItem r → painting r t ≡ Whole (blank_notes 0 t)
