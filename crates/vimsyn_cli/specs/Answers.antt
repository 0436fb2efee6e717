-- What a run's clauses say of the bytes that the sinks got and of the status.
use Rattle.std.specs.Prelude.{◌≡◌, ◌⊎◌, ℕ, codes, Bool, true, false, List, Option, Result, Ok, Err}
use Rattle.edit_session.specs.declared.reading.End.{End}
use Rattle.edit_session.specs.declared.reading.End.TheVariants as end
use Rattle.edit_session.specs.Ends.{IsUnreadOf, SinkChange, SourceChange}
use Rattle.program_words.specs.declared.words.Asked.{Asked}
use Rattle.program_words.specs.declared.words.Asked.TheVariants.{Edit, Large, Print}
use Rattle.program_words.specs.declared.words.Printing.{Printing}
use Rattle.program_words.specs.declared.words.Printing.TheVariants.{Check, Folds, Html, Spans}
use Rattle.program_words.specs.Given.{PageWords}
use Rattle.syn_base.specs.Causes.{Rose}
use Rattle.syn_base.specs.Outside.{appended, AppendsPrefix, FileMap}
use Rattle.vimsyn_cli.specs.declared.fault.FaultKind.TheVariants.{TooLong}
use Rattle.vimsyn_cli.specs.declared.fault.Fault.{Fault as FaultOf}
use Rattle.vimsyn_cli.specs.declared.fault.Stop.{Stop}
use Rattle.vimsyn_cli.specs.declared.fault.Stop.TheVariants.{Fault}
use Rattle.vimsyn_cli.specs.declared.fault.Stop.TheVariants as stop
use Rattle.vimsyn_cli.specs.declared.status.Status.{Status}
use Rattle.vimsyn_cli.specs.declared.status.Status.TheVariants.{Done, Refused, Usage, ReadFault, WriteFault, Memory}
use Rattle.state_cache.specs.PaintedText.{PaintedText}
use Rattle.vimsyn_cli.specs.Concealing.{IsUnreadView, IsViewFault}
use Rattle.vimsyn_cli.specs.EditRun.{script_answer}
use Rattle.vimsyn_cli.specs.Painting.{IsPaintFault, IsRefusedPainting, IsUnreadPaint, painting_told}
use Rattle.vimsyn_cli.specs.Reading.{IsReadFault, IsUnreadAsked}
use Rattle.vimsyn_cli.specs.Renewal.{library_of}
use Rattle.vimsyn_cli.specs.Report.{cause_status, long_script, unread_script, usage_line}
use Rattle.vimsyn_cli.specs.Written.{Session}

-- both sinks got the bytes of the session, and the status is its
pub record GivesSession (session : Session) (out_before out_after err_before err_after : Option (List ℕ)) (answer : Status) : Type 0 where
  pub out : out_after ≡ appended out_before session.out
  pub err : err_after ≡ appended err_before session.err
  pub status : answer ≡ session.status

-- the statuses that say that nothing failed
abbrev pub is_unfailed : Status → Bool
is_unfailed Done = true
is_unfailed Refused = true
is_unfailed Usage = true
is_unfailed ReadFault = false
is_unfailed WriteFault = false
is_unfailed Memory = false

-- a fault that a command tells that prints at once, whatever the files say: of reading, of the text, or of
-- its painting or view
abbrev pub IsFaultOfPrint : Printing → FaultOf → Type 0
IsFaultOfPrint (Check words) fault = IsReadFault fault
IsFaultOfPrint (Spans words) fault = IsViewFault words fault
IsFaultOfPrint (Html words) fault = IsViewFault words.painting fault
IsFaultOfPrint (Folds words) fault = IsPaintFault words.painting fault

-- the same of any command: `edit` tells what `folds` tells, and `large` that the painting of its text is
-- refused
abbrev pub IsFaultOfAsked : Asked → FaultOf → Type 0
IsFaultOfAsked (Print printing) fault = IsFaultOfPrint printing fault
IsFaultOfAsked (Edit words) fault = IsPaintFault words.painting fault
IsFaultOfAsked (Large words) fault = IsRefusedPainting (codes "large") fault

-- the line for a file that can't be read: one that the words name, or that the rules of reading ask for
abbrev pub IsUnreadPrint : Printing → FileMap → List ℕ → Type 0
IsUnreadPrint (Check words) files line = IsUnreadAsked words files line
IsUnreadPrint (Spans words) files line = IsUnreadView words files line
IsUnreadPrint (Html words) files line = IsUnreadView words.painting files line
IsUnreadPrint (Folds words) files line = IsUnreadPaint words.painting files line

-- the script is asked for: there is a painted text
pub record AsksForScript (words : PageWords) (files : FileMap) : Type 0 where
  pub painted : PaintedText
  pub accepted : painting_told words.painting files ≡ Ok painted

-- the line for a file that can't be read and that a syntax asks for which the script names
pub record IsUnreadNamed (words : PageWords) (files : FileMap) (script line : List ℕ) : Type 0 where
  pub painted : PaintedText
  pub accepted : painting_told words.painting files ≡ Ok painted
  pub unread : IsUnreadOf (library_of words painted.budget files) (script_answer words files painted script).asked line

-- the same of any command; `edit` has the line for its script too, and for the files that it names, and `large` reads no
-- file
abbrev pub IsUnreadLine : Asked → FileMap → List ℕ → List ℕ → Type 0
IsUnreadLine (Print printing) files script line = IsUnreadPrint printing files line
IsUnreadLine (Edit words) files script line =
    IsUnreadPaint words.painting files line
    ⊎ (AsksForScript words files × (line ≡ unread_script))
    ⊎ IsUnreadNamed words files script line
IsUnreadLine (Large words) files script line = ⊥

-- `err` got the whole line of a fault, and the answer is the status of that fault; it is of a file too
-- long only where the count of such files rose
pub record TellsFault (asked : Asked) (before after : Option (List ℕ)) (longs longs_after : ℕ) (answer : Status) : Type 0 where
  pub fault : FaultOf
  pub asked_for : IsFaultOfAsked asked fault
  pub line : after ≡ appended before fault.line
  pub status : answer ≡ cause_status fault.cause
  pub too_long : fault.cause ≡ TooLong → Rose longs longs_after

-- a part of the line for a file, or a script, that couldn't be read
pub record TellsUnread
    (asked : Asked) (files : FileMap) (script : List ℕ) (before after : Option (List ℕ)) : Type 0 where
  pub line : List ℕ
  pub unread : IsUnreadLine asked files script line
  pub part : AppendsPrefix before after line

-- the whole of it
pub record TellsAllUnread
    (asked : Asked) (files : FileMap) (script : List ℕ) (before after : Option (List ℕ)) : Type 0 where
  pub line : List ℕ
  pub unread : IsUnreadLine asked files script line
  pub whole : after ≡ appended before line

-- a sink took all of the bytes, and the answer is the one planned
pub record WroteAll (before after : Option (List ℕ)) (faults faults_after : ℕ) (bytes : List ℕ) (planned answer : Status) : Type 0 where
  pub whole : after ≡ appended before bytes
  pub unfailed : faults_after ≡ faults
  pub status : answer ≡ planned

-- a write failed after a part of the bytes
pub record WroteSome (before after : Option (List ℕ)) (faults faults_after : ℕ) (bytes : List ℕ) (answer : Status) : Type 0 where
  pub part : AppendsPrefix before after bytes
  pub failed : Rose faults faults_after
  pub status : answer ≡ WriteFault

abbrev pub IsUntouched : SinkChange → Type 0
IsUntouched sink = (sink.after ≡ sink.before) × (sink.faults_after ≡ sink.faults)

-- nothing was taken from a script, and no read of it failed
abbrev pub IsUntaken : SourceChange → Type 0
IsUntaken script = (script.after ≡ script.before) × (script.faults_after ≡ script.faults)

abbrev pub Writes : SinkChange → List ℕ → Status → Status → Type 0
Writes sink bytes planned answer =
    WroteAll sink.before sink.after sink.faults sink.faults_after bytes planned answer
    ⊎ WroteSome sink.before sink.after sink.faults sink.faults_after bytes answer

-- `out` got nothing, and `err` the usage line, or a part of it where a write failed
abbrev pub TellsUsage : SinkChange → SinkChange → Status → Type 0
TellsUsage out err answer = IsUntouched out × Writes err usage_line Usage answer

-- what was asked goes to `out`, the line of a fault to `err`, and want of memory is answered in silence
abbrev pub Delivers : Result (List ℕ) Stop → SinkChange → SinkChange → Status → Type 0
Delivers (Ok bytes) out err answer = IsUntouched err × Writes out bytes Done answer
Delivers (Err (Fault fault)) out err answer = IsUntouched out × Writes err fault.line (cause_status fault.cause) answer
Delivers (Err stop.Memory) out err answer = IsUntouched out × IsUntouched err × (answer ≡ Memory)

-- how a script ended is told on `err` where all was not read
abbrev pub Closes : End → SinkChange → Status → Type 0
Closes end.Done err answer = IsUntouched err × (answer ≡ Done)
Closes end.Refused err answer = IsUntouched err × (answer ≡ Refused)
Closes end.TooLong err answer = Writes err long_script Refused answer
Closes end.Unread err answer = Writes err unread_script ReadFault answer
Closes (end.Unfetched line) err answer = Writes err line ReadFault answer
Closes end.Unwritten err answer = IsUntouched err × (answer ≡ WriteFault)
Closes end.Memory err answer = IsUntouched err × (answer ≡ Memory)
