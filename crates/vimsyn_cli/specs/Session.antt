-- The session: what a run writes on `out` and on `err`, and its status, as a function of the words, the
-- files and the script.
use Rattle.std.specs.Prelude.{ℕ, ◌+◌, List, [], length, Option, Some, None, Result, Ok, Err}
use Rattle.program_words.specs.Given.{PageWords, PaintWords}
use Rattle.program_words.specs.declared.words.Asked.{Asked}
use Rattle.program_words.specs.declared.words.Asked.TheVariants.{Edit, Large, Print}
use Rattle.program_words.specs.declared.words.Printing.{Printing}
use Rattle.program_words.specs.declared.words.Printing.TheVariants.{Check, Folds, Html, Spans}
use Rattle.program_words.specs.Words.{asked_of}
use Rattle.state_cache.specs.PaintedText.{PaintedText}
use Rattle.syn_base.specs.Outside.{FileMap}
use Rattle.vimsyn_cli.specs.declared.fault.Fault.{Fault}
use Rattle.vimsyn_cli.specs.declared.status.Status.TheVariants.{Usage}
use Rattle.vimsyn_cli.specs.Check.{check_told}
use Rattle.vimsyn_cli.specs.EditRun.{edit_session, script_lines}
use Rattle.vimsyn_cli.specs.Folds.{folds_told}
use Rattle.vimsyn_cli.specs.Large.{large_run}
use Rattle.vimsyn_cli.specs.Painting.{painting_told, text_told}
use Rattle.vimsyn_cli.specs.Printing.{html_told, spans_told}
use Rattle.vimsyn_cli.specs.Report.{usage_line}
use Rattle.vimsyn_cli.specs.Written.{Session, ends, shows, tells}

-- the bytes that a command prints at once, or its fault
abbrev pub print_told : Printing → FileMap → Result (List ℕ) Fault
print_told (Check words) files = check_told words files
print_told (Spans words) files = spans_told words files
print_told (Html words) files = html_told words files
print_told (Folds words) files = folds_told words files

abbrev pub session_told : Result (List ℕ) Fault → Session
session_told (Ok bytes) = shows bytes
session_told (Err fault) = ends fault

-- the session of a command
abbrev pub asked_session : Asked → FileMap → List ℕ → Session
asked_session (Print printing) files script = session_told (print_told printing files)
asked_session (Edit words) files script = edit_session words files script
asked_session (Large words) files script = large_run words

-- the session with words, or with words that aren't in the table
abbrev pub with_asked : FileMap → List ℕ → Option Asked → Session
with_asked files script None = tells usage_line Usage
with_asked files script (Some asked) = asked_session asked files script

abbrev pub session : List (List ℕ) → FileMap → List ℕ → Session
session words files script = with_asked files script (asked_of words)

-- what is told of the script, as far as a command reads it: `edit` alone takes from it
abbrev pub script_read : Option Asked → Option (List ℕ) → Option (List ℕ)
script_read (Some (Edit words)) script = script
script_read (Some (Print printing)) script = Some []
script_read (Some (Large words)) script = Some []
script_read None script = Some []

-- how many lines a command paints at most that prints at once: those of the text, if it is asked for one
abbrev pub lines_in : Result (List (List ℕ)) Fault → ℕ
lines_in (Ok lines) = length lines
lines_in (Err fault) = 0

abbrev pub text_lines : PaintWords → FileMap → ℕ
text_lines words files = lines_in (text_told words.text files)

abbrev pub print_lines : Printing → FileMap → ℕ
print_lines (Check words) files = 0
print_lines (Spans words) files = text_lines words files
print_lines (Html words) files = text_lines words.painting files
print_lines (Folds words) files = text_lines words.painting files

-- and how many for the commands of a script: those of each change and of each syntax that they come to
abbrev pub told_lines : PageWords → FileMap → List ℕ → Result PaintedText Fault → ℕ
told_lines words files script (Ok painted) = script_lines words files painted script
told_lines words files script (Err fault) = 0

abbrev pub edit_lines : PageWords → FileMap → List ℕ → ℕ
edit_lines words files script =
    text_lines words.painting files + told_lines words files script (painting_told words.painting files)
