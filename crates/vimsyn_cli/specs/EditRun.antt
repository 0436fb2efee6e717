-- The session of edits on a text file, which begins with its painting by the syntax of the words.
use Rattle.std.specs.Prelude.{ℕ, Bool, true, false, List, [], Result, Ok, Err}
use Rattle.edit_session.specs.Session.{Answer, Standing, is_too_long, script_costs, script_session, start}
use Rattle.program_words.specs.Given.{PageWords}
use Rattle.state_cache.specs.PaintedText.{PaintedText}
use Rattle.syn_base.specs.Outside.{FileMap}
use Rattle.vimsyn_cli.specs.declared.fault.Fault.{Fault}
use Rattle.vimsyn_cli.specs.declared.status.Status.TheVariants.{Refused}
use Rattle.vimsyn_cli.specs.Editing.{painter_of, script_status, shown_of}
use Rattle.vimsyn_cli.specs.Painting.{painting_told}
use Rattle.vimsyn_cli.specs.Renewal.{library_of}
use Rattle.vimsyn_cli.specs.Report.{long_script}
use Rattle.vimsyn_cli.specs.Written.{Session, ends}

-- before the first command the syntax of the words is in force
abbrev pub edit_start : PageWords → PaintedText → Standing
edit_start words painted = start (painter_of words painted.syntax painted.budget) (shown_of painted)

-- what the commands of a script print on a painted text, and what stands behind them
abbrev pub script_answer : PageWords → FileMap → PaintedText → List ℕ → Answer
script_answer words files painted script =
    script_session (library_of words painted.budget files) (edit_start words painted) script

-- how many lines they may paint
abbrev pub script_lines : PageWords → FileMap → PaintedText → List ℕ → ℕ
script_lines words files painted script =
    script_costs (library_of words painted.budget files) (edit_start words painted) script

-- what is told and answered at the end of a script
abbrev pub script_end : Bool → Answer → Session
script_end true answer = record { out = answer.text; err = long_script; status = Refused }
script_end false answer = record { out = answer.text; err = []; status = script_status answer.stands.refused }

-- the session of edits on a painted text, or the line of a fault
abbrev pub edit_told : PageWords → FileMap → List ℕ → Result PaintedText Fault → Session
edit_told words files script (Ok painted) =
    script_end (is_too_long script) (script_answer words files painted script)
edit_told words files script (Err fault) = ends fault

abbrev pub edit_session : PageWords → FileMap → List ℕ → Session
edit_session words files script = edit_told words files script (painting_told words.painting files)
