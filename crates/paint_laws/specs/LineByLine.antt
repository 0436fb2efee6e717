-- The painting of a text is that of its lines, one after the other from the first.
use Rattle.std.specs.Prelude.{◌≡◌, ◌<◌, ◌↔◌, ℕ, zero, suc}
use Rattle.std.specs.Prelude.{List, length, Option, Some, None, slice_get}
use Rattle.match_rules.specs.Ways.{Text}
use Rattle.paint_rules.specs.Painted.{Done}
use Rattle.paint_rules.specs.Rules.{Rules, Here}
use Rattle.paint_rules.specs.States.{State, empty_state, next_line}
use Rattle.paint_rules.specs.Line.{Note, Whole, Fails, Refusal, painted_line, painting}
use Rattle.paint_laws.specs.Outcomes.{Refuses}

abbrev pub line_of : Rules → Text → ℕ → Here
line_of r t l = record { rules = r; text = t; line = l }

abbrev pub state_behind : Option Note → State
state_behind None = empty_state
state_behind (Some note) = next_line note.after

-- the state before a line: the empty one before the first, and else what the line before it leaves
abbrev pub state_before : List Note → ℕ → State
state_before notes zero = empty_state
state_before notes (suc l) = state_behind (slice_get notes l)

-- a note is what a line's painting gives from a state
pub record IsNoteOf (r : Rules) (t : Text) (l : ℕ) (state : State) (note : Note) : Type 0 where
  pub begins : note.before ≡ state
  pub painted : painted_line (line_of r t l) state ≡ Done
      (record { spans = note.spans; after = note.after }) note.looked

-- notes of a text's first lines, each painted from the state that the line before it leaves
abbrev pub AreNotesOf : Rules → Text → List Note → Type 0
AreNotesOf r t notes =
    (l : ℕ) (note : Note) → Some note ≡ slice_get notes l →
    IsNoteOf r t l (state_before notes l) note

-- a painting that isn't refused has a note for each line
pub record IsWhole (r : Rules) (t : Text) (notes : List Note) : Type 0 where
  pub count : length notes ≡ length t
  pub each : AreNotesOf r t notes

-- one that is refused has them for the lines before the refused one
pub record FailsAt (r : Rules) (t : Text) (l : ℕ) (refusal : Refusal) : Type 0 where
  pub notes : List Note
  pub count : length notes ≡ l
  pub each : AreNotesOf r t notes
  pub within : l < length t
  pub refused : Refuses (painted_line (line_of r t l) (state_before notes l)) refusal

-- the law, of a painting that isn't refused, and of one that is
abbrev pub WholePaintings : Type 0
WholePaintings =
    (r : Rules) (t : Text) (notes : List Note) → painting r t ≡ Whole notes ↔ IsWhole r t notes

abbrev pub RefusedPaintings : Type 0
RefusedPaintings =
    (r : Rules) (t : Text) (l : ℕ) (refusal : Refusal) → painting r t ≡ Fails l refusal ↔
    FailsAt r t l refusal
