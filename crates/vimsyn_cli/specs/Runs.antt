-- What a run of a command comes to: its answer, what the sinks got, and what became of the files and of the
-- script.
use Rattle.std.specs.Prelude.{◌≡◌, ◌≢◌, ◌⊎◌, ℕ, ◌+◌, ◌<◌, ◌≤◌, Bool, true, false, List, length, Option, Some, None, IfSome, IsSomeAnd, Ok, Err, ⊤}
use Rattle.edit_script.specs.Entries.{entries_of}
use Rattle.edit_session.specs.declared.reading.End.{End}
use Rattle.edit_session.specs.Ends.{EndsSo, HasCause, IfKnown, IsReadWhole, ReadsToEnd, SinkChange, SourceChange, Takes, TakesFew, TakesMany}
use Rattle.edit_session.specs.Session.{session}
use Rattle.program_words.specs.declared.words.Asked.{Asked}
use Rattle.program_words.specs.declared.words.Asked.TheVariants.{Edit, Large, Print}
use Rattle.program_words.specs.Given.{PageWords}
use Rattle.syn_base.specs.Causes.{Rose}
use Rattle.syn_base.specs.Outside.{AppendsPrefix, FileMap, appended}
use Rattle.state_cache.specs.PaintedText.{IsPainted, PaintedText}
use Rattle.vimsyn_cli.specs.declared.fault.Fault.{Fault}
use Rattle.vimsyn_cli.specs.declared.status.Status.{Status}
use Rattle.vimsyn_cli.specs.declared.status.Status.TheVariants.{Done, Refused, Usage, ReadFault, WriteFault, Memory}
use Rattle.vimsyn_cli.specs.Answers.{Closes, GivesSession, IsUntaken, TellsAllUnread, TellsFault, TellsUnread, TellsUsage, is_unfailed}
use Rattle.vimsyn_cli.specs.Changes.{AreUnasked, FilesChange}
use Rattle.vimsyn_cli.specs.EditRun.{edit_start, script_answer}
use Rattle.vimsyn_cli.specs.Large.{RefusesEdit, large_lines}
use Rattle.vimsyn_cli.specs.Painting.{painting_told}
use Rattle.vimsyn_cli.specs.Renewal.{library_of}
use Rattle.vimsyn_cli.specs.Report.{long_script, unread_script}
use Rattle.vimsyn_cli.specs.Session.{edit_lines, print_lines, script_read, with_asked}

-- where what a command reads of the files and of the script is told
abbrev pub IfTold : Option FileMap → Option (List ℕ) → (FileMap → List ℕ → Type 0) → Type 0
IfTold None script P = ⊤
IfTold (Some files) None P = ⊤
IfTold (Some files) (Some script) P = P files script

-- a text was painted, by the rules where the files are told; a script was then read to its end; and where the files are
-- told, what its commands print on that text was written, and one of them was refused, or none
pub record ReadsScript (words : PageWords) (told : Option FileMap) (refused : Bool) (script : SourceChange) (out : SinkChange) : Type 0 where
  pub painted : PaintedText
  pub is_painted : IsPainted painted
  pub of_files : IfSome told (λ known. painting_told words.painting known ≡ Ok painted)
  pub whole : IsReadWhole script
  pub read : IfKnown told (λ known.
      ReadsToEnd (library_of words painted.budget known) (edit_start words painted) refused script out)

-- a script was refused as a whole, or one of its commands was, and then it was read to its end; or, of the
-- large mode, a drawn edit was refused
abbrev pub RefusesScript : Asked → Option FileMap → SourceChange → SinkChange → SinkChange → Type 0
RefusesScript (Edit words) told script out err =
    ((err.after ≡ appended err.before long_script) × TakesMany script)
    ⊎ ((err.after ≡ err.before) × ReadsScript words told true script out)
RefusesScript (Large words) told script out err = (err.after ≡ err.before) × RefusesEdit words
RefusesScript (Print printing) told script out err = ⊥

-- a file that a script names, or one that this asks for, couldn't be read, which `err` got a line for
pub record FailsAtFile (files : FilesChange) (err : SinkChange) : Type 0 where
  pub line : List ℕ
  pub told : err.after ≡ appended err.before line
  pub unreadable : Rose files.faults files.faults_after

-- a script couldn't be read, or a file that it names, which `err` got the line for
abbrev pub FailsScript : Asked → FilesChange → SourceChange → SinkChange → Type 0
FailsScript (Edit words) files script err =
    ((err.after ≡ appended err.before unread_script) × Rose script.faults script.faults_after)
    ⊎ FailsAtFile files err
FailsScript asked files script err = ⊥

-- a read of the script failed: `out` got what the commands print whose last line is whole in the bytes that
-- were taken
pub record PrintsSoFar
    (words : PageWords) (files : FileMap) (painted : PaintedText) (script : SourceChange) (out : SinkChange) : Type 0 where
  pub bytes : List ℕ
  pub taken : Takes bytes script.before script.after
  pub printed : out.after
      ≡ appended out.before (session (library_of words painted.budget files) (edit_start words painted) (entries_of 0 bytes)).text

-- a read of the script failed, where the files are told: `out` got just that
abbrev pub StopsSoFar : Option Asked → FileMap → SourceChange → SinkChange → Type 0
StopsSoFar (Some (Edit words)) files script out =
    (painted : PaintedText) → painting_told words.painting files ≡ Ok painted → PrintsSoFar words files painted script out
StopsSoFar asked files script out = ⊤

-- words that ask for no session of edits leave the script alone; and so does a session of edits where its syntax file,
-- its text or the first painting isn't accepted
abbrev pub LeavesScript : Option Asked → Option FileMap → SourceChange → Type 0
LeavesScript (Some (Edit words)) told script =
    IfSome told (λ known. (fault : Fault) → painting_told words.painting known ≡ Err fault → IsUntaken script)
LeavesScript asked told script = IsUntaken script

-- words that aren't in the table leave the files alone, and so does the large mode, whose files are its own
abbrev pub LeavesFiles : Option Asked → FilesChange → Type 0
LeavesFiles None files = AreUnasked files
LeavesFiles (Some (Large words)) files = AreUnasked files
LeavesFiles (Some (Print printing)) files = ⊤
LeavesFiles (Some (Edit words)) files = ⊤

-- a session of edits reads its script to the end, and none of its commands was refused
abbrev pub EndsScript : Option Asked → Option FileMap → SourceChange → SinkChange → Type 0
EndsScript (Some (Edit words)) told script out = ReadsScript words told false script out
EndsScript asked told script out = ⊤

pub record Runs (asked : Option Asked) (files : FilesChange) (script : SourceChange) (out err : SinkChange) (answer : Status) : Type 0 where
  -- where what is read is told and nothing fails, all is as in the session
  pub session : IfTold files.told (script_read asked script.before) (λ known bytes.
      ¬ Rose files.faults files.faults_after → ¬ Rose script.faults script.faults_after
      → ¬ Rose out.faults out.faults_after → ¬ Rose err.faults err.faults_after → answer ≢ Memory
      → GivesSession (with_asked known bytes asked) out.before out.after err.before err.after answer)
  -- whatever the answer, the sinks got a part of the session's bytes, but that `err` may have got the line
  -- for a file or a script that couldn't be read
  pub out_part : IfTold files.told (script_read asked script.before) (λ known bytes.
      AppendsPrefix out.before out.after (with_asked known bytes asked).out)
  pub err_part : IfTold files.told (script_read asked script.before) (λ known bytes.
      ¬ Rose files.faults files.faults_after → ¬ Rose script.faults script.faults_after
      → AppendsPrefix err.before err.after (with_asked known bytes asked).err)
  pub err_part_or_unread : IfTold files.told (script_read asked script.before) (λ known bytes.
      AppendsPrefix err.before err.after (with_asked known bytes asked).err
      ⊎ IsSomeAnd asked (λ a. TellsUnread a known bytes err.before err.after))
  -- each answer and its cause
  pub usage : answer ≡ Usage → asked ≡ None
  pub faulty : asked ≡ None → (answer ≡ Usage) ⊎ (answer ≡ WriteFault)
  pub faulty_told : asked ≡ None → TellsUsage out err answer
  pub refused : answer ≡ Refused → IsSomeAnd asked (λ a.
      (TellsFault a err.before err.after files.longs files.longs_after answer × IsUntaken script)
      ⊎ RefusesScript a files.told script out err)
  pub read_fault : answer ≡ ReadFault →
      Rose files.faults files.faults_after ⊎ Rose files.misses files.misses_after ⊎ Rose script.faults script.faults_after
  pub read_fault_line : answer ≡ ReadFault → IsSomeAnd asked (λ a.
      (TellsFault a err.before err.after files.longs files.longs_after answer × IsUntaken script)
      ⊎ FailsScript a files script err)
  pub read_fault_told : answer ≡ ReadFault → IfTold files.told (script_read asked script.before) (λ known bytes.
      (err.after ≡ appended err.before (with_asked known bytes asked).err)
      ⊎ IsSomeAnd asked (λ a. TellsAllUnread a known bytes err.before err.after))
  pub write_fault : answer ≡ WriteFault → Rose out.faults out.faults_after ⊎ Rose err.faults err.faults_after
  pub stopped : answer ≡ ReadFault → Rose script.faults script.faults_after
      → IfSome files.told (λ known. StopsSoFar asked known script out) ⊎ FailsAtFile files err
  -- what stays as it was
  pub files_unfailed : is_unfailed answer ≡ true → files.faults_after ≡ files.faults
  pub script_unfailed : is_unfailed answer ≡ true → script.faults_after ≡ script.faults
  pub out_unfailed : answer ≢ WriteFault → out.faults_after ≡ out.faults
  pub err_unfailed : answer ≢ WriteFault → err.faults_after ≡ err.faults
  pub done_misses : answer ≡ Done → files.misses_after ≡ files.misses
  pub done_longs : answer ≡ Done → files.longs_after ≡ files.longs
  pub files_kept : files.told_after ≡ files.told
  pub files_left : LeavesFiles asked files
  pub script_left : LeavesScript asked files.told script
  pub script_taken : TakesFew script
  pub script_ended : answer ≡ Done → EndsScript asked files.told script out

-- of a session of edits: where a command of its script names a syntax of which a file is too long, the count of such
-- files rose
abbrev pub CountsNamed : Option Asked → FileMap → List ℕ → FilesChange → Type 0
CountsNamed (Some (Edit words)) known script files =
    (painted : PaintedText) → painting_told words.painting known ≡ Ok painted
    → (script_answer words known painted script).stands.met_long ≡ true → Rose files.longs files.longs_after
CountsNamed asked known script files = ⊤

-- how many lines are painted at most, by what a command reads of the files and of the script
abbrev pub PaintsFew : Option Asked → FileMap → List ℕ → ℕ → ℕ → Type 0
PaintsFew None files script before after = after ≡ before
PaintsFew (Some (Print printing)) files script before after = after ≤ before + print_lines printing files
PaintsFew (Some (Edit words)) files script before after = after ≤ before + edit_lines words files script
PaintsFew (Some (Large words)) files script before after = after ≤ before + large_lines words

-- a script was carried out on a painted text
pub record EditsPainted
    (words : PageWords) (painted : PaintedText) (files : FilesChange) (script : SourceChange) (out err : SinkChange)
    (answer : Status) : Type 0 where
  pub is_painted : IsPainted painted
  pub kept : files.told_after ≡ files.told
  pub end : End
  pub ends : IfKnown files.told (λ known.
      EndsSo (library_of words painted.budget known) (edit_start words painted) script out end)
  pub causes : HasCause script out files end
  pub closes : Closes end err answer
  pub taken : TakesFew script
  pub part : IfKnown files.told (λ known. IfSome script.before (λ bytes.
      AppendsPrefix out.before out.after (script_answer words known painted bytes).text))
