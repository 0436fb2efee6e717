-- The large mode as a run: a generated text named `large` is painted by the syntax `mini.vim`, which the
-- program keeps, and drawn edits are carried out on it. No file of the outside is read, and no script.
use Rattle.std.specs.Prelude.{◌≡◌, ℕ, ◌+◌, true, [], ◌∷◌, codes, Result, Ok, Err}
use Rattle.program_words.specs.Given.{LargeWords}
use Rattle.program_words.specs.Words.{large_page}
use Rattle.text_buffer.specs.BytesOfText.{bytes_of}
use Rattle.edit_session.specs.Painter.{Painter}
use Rattle.large_session.specs.LargeSession.{Standing, edit_count, five_lines, has_refused, large_session, large_text, lines_of_edits, number_behind, start}
use Rattle.large_session.specs.MiniSyntax.{mini_syntax}
use Rattle.syn_base.specs.Outside.{FileMap}
use Rattle.state_cache.specs.PaintedText.{PaintedText}
use Rattle.vimsyn_cli.specs.declared.fault.Fault.{Fault}
use Rattle.vimsyn_cli.specs.Editing.{painter_of, script_status, shown_of}
use Rattle.vimsyn_cli.specs.Painting.{painting_told}
use Rattle.vimsyn_cli.specs.Written.{Session, ends}

-- the files that it reads, all its own
abbrev pub large_files : LargeWords → FileMap
large_files words =
    (codes "mini.vim", mini_syntax) ∷ (codes "large", bytes_of (large_text words.seed words.lines)) ∷ []

-- the painted text at the start, or why there is none
unfoldable pub large_painting : LargeWords → Result PaintedText Fault
large_painting words = painting_told (large_page words).painting (large_files words)

-- by what the text is painted
abbrev pub large_painter : LargeWords → PaintedText → Painter
large_painter words painted = painter_of (large_page words) painted.syntax painted.budget

-- what stands behind all edits
abbrev pub large_standing : LargeWords → PaintedText → Standing
large_standing words painted =
    large_session (large_painter words painted) (shown_of painted) words.seed words.lines

-- five lines, and whether an edit was refused; or the line of the first painting's refusal
abbrev pub large_told : LargeWords → Result PaintedText Fault → Session
large_told words (Ok painted) = record {
  out = five_lines (large_standing words painted);
  err = [];
  status = script_status (has_refused (large_standing words painted));
}
large_told words (Err fault) = ends fault

abbrev pub large_run : LargeWords → Session
large_run words = large_told words (large_painting words)

-- an edit was refused
pub record RefusesEdit (words : LargeWords) : Type 0 where
  pub painted : PaintedText
  pub accepted : large_painting words ≡ Ok painted
  pub refused : has_refused (large_standing words painted) ≡ true

-- how many lines are painted at most: those of the text at the start, and at each edit those that it
-- costs
abbrev pub lines_edited : LargeWords → Result PaintedText Fault → ℕ
lines_edited words (Ok painted) =
    lines_of_edits (large_painter words painted) (edit_count words.lines) (start (shown_of painted)) (number_behind words.seed words.lines)
lines_edited words (Err fault) = 0

abbrev pub large_lines : LargeWords → ℕ
large_lines words = words.lines + lines_edited words (large_painting words)
