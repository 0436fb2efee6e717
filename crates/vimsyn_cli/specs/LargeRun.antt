-- What the steps of the large mode say.
use Rattle.std.specs.Prelude.{◌≡◌, ◌≢◌, ◌⊎◌, codes, Option, Some, Result, Ok, Err, ⊤}
use Rattle.edit_session.specs.Ends.{SinkChange}
use Rattle.large_session.specs.declared.session.Outcome.{Outcome}
use Rattle.large_session.specs.LargeSession.{five_lines, has_refused}
use Rattle.program_words.specs.declared.words.Asked.{Asked}
use Rattle.program_words.specs.declared.words.Asked.TheVariants.{Large}
use Rattle.program_words.specs.Given.{LargeWords}
use Rattle.syn_base.specs.Causes.{Rose}
use Rattle.syn_base.specs.Outside.{AppendsPrefix, appended}
use Rattle.state_cache.specs.PaintedText.{PaintedText}
use Rattle.vimsyn_cli.specs.Answers.{Delivers, GivesSession, IsUntouched, Writes}
use Rattle.vimsyn_cli.specs.declared.fault.Stop.{Stop}
use Rattle.vimsyn_cli.specs.declared.fault.Stop.TheVariants.{Fault, Memory}
use Rattle.vimsyn_cli.specs.declared.status.Status.{Status}
use Rattle.vimsyn_cli.specs.declared.status.Status.TheVariants as status
use Rattle.vimsyn_cli.specs.declared.fault.Fault.{Fault as FaultOf}
use Rattle.vimsyn_cli.specs.Editing.{script_status}
use Rattle.vimsyn_cli.specs.Painting.{IsRefusedPainting}
use Rattle.vimsyn_cli.specs.Large.{RefusesEdit, large_painting, large_run, large_standing}

-- the outcome is that of the edits on the painted text
pub record IsOutcome (words : LargeWords) (outcome : Outcome) : Type 0 where
  pub painted : PaintedText
  pub accepted : large_painting words ≡ Ok painted
  pub text : outcome.text ≡ five_lines (large_standing words painted)
  pub refused : outcome.refused ≡ has_refused (large_standing words painted)

-- the outcome, or the refusal of the first painting, or want of memory
abbrev pub IsLarge : LargeWords → Result Outcome Stop → Type 0
IsLarge words (Ok outcome) = IsOutcome words outcome
IsLarge words (Err (Fault fault)) = large_painting words ≡ Err fault
IsLarge words (Err Memory) = ⊤

-- the five lines go to `out`
abbrev pub DeliversLarge : Result Outcome Stop → SinkChange → SinkChange → Status → Type 0
DeliversLarge (Ok outcome) out err answer =
    IsUntouched err × Writes out outcome.text (script_status outcome.refused) answer
DeliversLarge (Err stop) out err answer = Delivers (Err stop) out err answer

-- the first painting is refused, which `err` got the line for
pub record TellsRefusal (words : LargeWords) (err : SinkChange) : Type 0 where
  pub fault : FaultOf
  pub told : large_painting words ≡ Err fault
  pub refused : IsRefusedPainting (codes "large") fault
  pub line : err.after ≡ appended err.before fault.line

-- What a run of the large mode comes to. It depends on nothing of the outside but on its sinks.
pub record RunsLarge (words : LargeWords) (out err : SinkChange) (answer : Status) : Type 0 where
  -- where nothing fails, all is as in the session
  pub session : ¬ Rose out.faults out.faults_after → ¬ Rose err.faults err.faults_after → answer ≢ status.Memory
      → GivesSession (large_run words) out.before out.after err.before err.after answer
  -- whatever the answer, the sinks got a part of its bytes
  pub out_part : AppendsPrefix out.before out.after (large_run words).out
  pub err_part : AppendsPrefix err.before err.after (large_run words).err
  -- each answer and its cause
  pub in_table : answer ≢ status.Usage
  pub readable : answer ≢ status.ReadFault
  pub refused : answer ≡ status.Refused → TellsRefusal words err ⊎ (RefusesEdit words × (err.after ≡ err.before))
  pub write_fault : answer ≡ status.WriteFault → Rose out.faults out.faults_after ⊎ Rose err.faults err.faults_after
  -- what stays as it was
  pub out_unfailed : answer ≢ status.WriteFault → out.faults_after ≡ out.faults
  pub err_unfailed : answer ≢ status.WriteFault → err.faults_after ≡ err.faults

abbrev pub RunsIfLarge : Option Asked → SinkChange → SinkChange → Status → Type 0
RunsIfLarge (Some (Large words)) out err answer = RunsLarge words out err answer
RunsIfLarge asked out err answer = ⊤
