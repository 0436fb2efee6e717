-- What is kept of a painted text: the note of each line, as it was painted from the first line on.
use Rattle.std.specs.Prelude.{◌≡◌, ℕ, List, Some, slice_get}
use Rattle.match_rules.specs.Ways.{Text}
use Rattle.paint_rules.specs.Line.{Note, Whole, painting}
use Rattle.paint_rules.specs.Rules.{Rules}
use Rattle.paint_rules.specs.States.{StateFits}
use Rattle.paint_reuse.specs.Kept.{KeptNote, note_at}
use Rattle.state_stack.specs.TopFirst.{top_first}
use Rattle.line_paint.specs.declared.paint.LineNote.{LineNote}

-- a note of the code, whose states the rules see with their tops first
abbrev pub kept_note : LineNote → KeptNote
kept_note note = record {
  before = top_first note.before;
  spans = note.spans;
  after = top_first note.after;
  looked = note.looked;
}

-- the note of a line is that of the painting of the whole text from its first line on
pub record IsNoteAt (r : Rules) (t : Text) (line : ℕ) (note : LineNote) : Type 0 where
  pub notes : List Note
  pub painting : painting r t ≡ Whole notes
  pub noted : slice_get notes line ≡ Some (note_at line (kept_note note))

-- its states belong to so many items
pub record NoteFits (n : ℕ) (note : KeptNote) : Type 0 where
  pub before : StateFits n note.before
  pub after : StateFits n note.after
