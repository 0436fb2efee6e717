-- What is kept of a painted line: its note, counted from the line itself, so that it needs no change
-- where the line moves.
use Rattle.std.specs.Prelude.{◌≡◌, ℕ, zero, suc, pos, ◌-ℤ◌, List, [], ◌∷◌, length}
use Rattle.std.specs.Prelude.{Option, Some, None, Result, Ok, Err}
use Rattle.syn_base.specs.Looked.{moved_by, one_line}
use Rattle.syn_base.specs.declared.looked.Looked.{Looked}
use Rattle.syn_base.specs.declared.places.Span.{Span}
use Rattle.match_rules.specs.Ways.{Text}
use Rattle.paint_rules.specs.Line.{Note, Painting, PaintedLine, Refusal, Whole, Fails, painted_line, painting}
use Rattle.paint_rules.specs.Painted.{Painted, Done, Refused}
use Rattle.paint_rules.specs.Rules.{Rules}
use Rattle.paint_rules.specs.States.{State, empty_state, next_line}
use Rattle.paint_shift.specs.Elsewhere.{line_in}

pub record KeptNote : Type 0 where
  pub before : State
  pub spans : List Span
  pub after : State
  -- the lines that were looked at, the painted line having the number 0
  pub looked : Looked

-- the note of line l, in the numbers of the text
abbrev pub note_at : ℕ → KeptNote → Note
note_at l note = record {
  before = note.before;
  spans = note.spans;
  after = note.after;
  looked = Some (moved_by note.looked (pos l));
}

-- those of the lines from line l on
abbrev pub notes_from : ℕ → List KeptNote → List Note
notes_from l [] = []
notes_from l (note ∷ notes) = note_at l note ∷ notes_from (suc l) notes

-- ---- what is kept of a painted line

-- the lines looked at, counted from line l
abbrev pub counted_from : ℕ → Option Looked → Looked
counted_from l None = one_line (pos 0)
counted_from l (Some looked) = moved_by looked (pos 0 -ℤ pos l)

abbrev pub kept_of : ℕ → State → Painted Refusal PaintedLine → Result KeptNote Refusal
kept_of l before (Done p looked) =
    Ok (record { before = before; spans = p.spans; after = p.after; looked = counted_from l looked })
kept_of l before (Refused refusal looked) = Err refusal

-- line l of a text painted from a state: its note, or why it has none
unfoldable pub line_note : Rules → Text → ℕ → State → Result KeptNote Refusal
line_note r t l before = kept_of l before (painted_line (line_in r t l) before)

-- ---- what is kept of a text

-- a refusal with its line
pub record RefusedLine : Type 0 where
  pub line : ℕ
  pub refusal : Refusal

-- some lines painted one after the other: their notes, and the state behind them or the first refusal
pub record Walked : Type 0 where
  pub notes : List KeptNote
  pub end : Result State RefusedLine

-- a painted line, and those behind it from the state before the next one; a refused line is the last
abbrev pub then_walked : ℕ → Result KeptNote Refusal → (State → Walked) → Walked
then_walked l (Ok note) rest =
    let after = rest (next_line note.after) in
    record { notes = note ∷ after.notes; end = after.end }
then_walked l (Err refusal) rest = record { notes = []; end = Err (record { line = l; refusal = refusal }) }

-- n lines from line l on
abbrev pub walked : Rules → Text → ℕ → ℕ → State → Walked
walked r t l zero s = record { notes = []; end = Ok s }
walked r t l (suc n) s = then_walked l (line_note r t l s) (walked r t (suc l) n)

abbrev pub whole_of : List KeptNote → Result State RefusedLine → Result (List KeptNote) RefusedLine
whole_of notes (Ok s) = Ok notes
whole_of notes (Err e) = Err e

-- the notes of all lines of a text, or the first refusal
unfoldable pub text_notes : Rules → Text → Result (List KeptNote) RefusedLine
text_notes r t = let all = walked r t 0 (length t) empty_state in whole_of all.notes all.end

-- as a painting
abbrev pub as_painting : Result (List KeptNote) RefusedLine → Painting
as_painting (Ok notes) = Whole (notes_from 0 notes)
as_painting (Err e) = Fails e.line e.refusal

-- the law: what is kept of a text is its painting
abbrev pub KeptNotesAreThePainting : Type 0
KeptNotesAreThePainting = (r : Rules) (t : Text) → painting r t ≡ as_painting (text_notes r t)
