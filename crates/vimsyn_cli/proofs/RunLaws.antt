-- What a run delivers, against the session that it is a run of.
use Rattle.std.proofs.Common.{◌≡◌, ◌≢◌, ℕ, Bool, true, false, List, [], length, refl, ap, subst, sym, ◌∙◌, inl, inr, arith}
use Rattle.std.specs.Prelude.{◌⊎◌, Option, Some, None, Result, Ok, Err, IfSome}
use Rattle.std.proofs.lemmas.List.{append-nil}
use Rattle.std.proofs.Math.Seq.{take-length}
use Rattle.edit_session.specs.Ends.{SinkChange, SourceChange, Takes, TakesFew}
use Rattle.program_words.specs.declared.words.Asked.{Asked}
use Rattle.program_words.specs.declared.words.Asked.TheVariants.{Edit, Large, Print}
use Rattle.syn_base.specs.Causes.{Counted, Rose}
use Rattle.syn_base.specs.Outside.{AppendsPrefix, FileMap, appended}
use Rattle.vimsyn_cli.specs.declared.fault.FaultKind.{FaultKind}
use Rattle.vimsyn_cli.specs.declared.fault.FaultKind.TheVariants.{Missing, Unread, TooLong, Content}
use Rattle.vimsyn_cli.specs.declared.fault.Fault.{Fault as FaultOf}
use Rattle.vimsyn_cli.specs.declared.fault.Stop.{Stop}
use Rattle.vimsyn_cli.specs.declared.fault.Stop.TheVariants as stop
use Rattle.vimsyn_cli.specs.declared.status.Status.{Status}
use Rattle.vimsyn_cli.specs.declared.status.Status.TheVariants.{Done, Refused, Usage, ReadFault, WriteFault, Memory}
use Rattle.vimsyn_cli.specs.Answers.{Delivers, GivesSession, IsFaultOfAsked, IsUnreadLine, IsUntouched, TellsAllUnread, TellsFault, TellsUnread, Writes, WroteAll, is_unfailed}
use Rattle.vimsyn_cli.specs.Changes.{FilesChange}
use Rattle.vimsyn_cli.specs.Report.{cause_status, usage_line}
use Rattle.vimsyn_cli.specs.Session.{asked_session, script_read}
use Rattle.vimsyn_cli.specs.Plans.{RaisesItsCount, IfFault, OrUnread, is_missing, is_too_long, is_unread}
use Rattle.vimsyn_cli.specs.Runs.{EndsScript, IfTold, LeavesFiles, LeavesScript, Runs, StopsSoFar}
use Rattle.vimsyn_cli.proofs.PlanLaws.{Plans}
use Rattle.vimsyn_cli.specs.Written.{Session, ends}

nothing : (written : Option (List ℕ)) → written ≡ appended written []
nothing None = refl
nothing (Some before) = ap Some (sym (append-nil before))

pub untouched : (sink : SinkChange) → IsUntouched sink → sink.after ≡ appended sink.before []
untouched sink same = same.0 ∙ nothing sink.before

-- a sink that wasn't touched got a part of any bytes
pub none_of : (sink : SinkChange) (bytes : List ℕ) → IsUntouched sink → AppendsPrefix sink.before sink.after bytes
none_of sink bytes same = (0, untouched sink same)

-- whether or not a write failed, a part of the bytes was written
pub part_of : (sink : SinkChange) (bytes : List ℕ) (planned answer : Status) → Writes sink bytes planned answer → AppendsPrefix sink.before sink.after bytes
part_of sink bytes planned answer (inl all) = (length bytes, all.whole ∙ ap (λ (part : List ℕ). appended sink.before part) (sym (take-length bytes)))
part_of sink bytes planned answer (inr some) = some.part

-- where no write failed, all was written
pub all_of : (sink : SinkChange) (bytes : List ℕ) (planned answer : Status) → Writes sink bytes planned answer → ¬ Rose sink.faults sink.faults_after → WroteAll sink.before sink.after sink.faults sink.faults_after bytes planned answer
all_of sink bytes planned answer (inl all) sound = all
all_of sink bytes planned answer (inr some) sound = absurd (sound some.failed)

-- a sink failed only where that is the answer
pub unfailed_of : (sink : SinkChange) (bytes : List ℕ) (planned answer : Status) → Writes sink bytes planned answer → answer ≢ WriteFault → sink.faults_after ≡ sink.faults
unfailed_of sink bytes planned answer (inl all) other = all.unfailed
unfailed_of sink bytes planned answer (inr some) other = absurd (other some.status)

pub out_unfailed : (result : Result (List ℕ) Stop) (out err : SinkChange) (answer : Status) → Delivers result out err answer → answer ≢ WriteFault → out.faults_after ≡ out.faults
out_unfailed (Ok bytes) out err answer delivered other = unfailed_of out bytes Done answer delivered.1 other
out_unfailed (Err (stop.Fault fault)) out err answer delivered other = delivered.0.1
out_unfailed (Err stop.Memory) out err answer delivered other = delivered.0.1

pub err_unfailed : (result : Result (List ℕ) Stop) (out err : SinkChange) (answer : Status) → Delivers result out err answer → answer ≢ WriteFault → err.faults_after ≡ err.faults
err_unfailed (Ok bytes) out err answer delivered other = delivered.0.1
err_unfailed (Err (stop.Fault fault)) out err answer delivered other = unfailed_of err fault.line (cause_status fault.cause) answer delivered.1 other
err_unfailed (Err stop.Memory) out err answer delivered other = delivered.1.1

-- a cause that the files' map decides
pub decided : (cause : FaultKind) (unread planned : Type 0) → OrUnread cause unread planned → is_unread cause ≡ false → planned
decided Missing unread planned p known = p
decided Unread unread planned p known = absurd cc
decided TooLong unread planned p known = p
decided Content unread planned p known = p

uncounted : (counted : Bool) (before after : ℕ) → Counted counted before after → ¬ Rose before after → counted ≡ false
uncounted true before after rose sound = absurd (sound rose)
uncounted false before after same sound = refl

-- a line is the session's, or one for a file that couldn't be read
either : (cause : FaultKind) (unread planned : Type 0) → OrUnread cause unread planned → planned ⊎ ((is_unread cause ≡ true) × unread)
either Missing unread planned p = inl p
either Unread unread planned p = inr (refl, p)
either TooLong unread planned p = inl p
either Content unread planned p = inl p

-- what is delivered where nothing fails is the session
gives_of : (s : Session) (IsLine : List ℕ → Type 0) (result : Result (List ℕ) Stop) (out err : SinkChange) (faults faults_after : ℕ) (answer : Status) → Plans s IsLine result → Delivers result out err answer → RaisesItsCount is_unread result faults faults_after → ¬ Rose faults faults_after → ¬ Rose out.faults out.faults_after → ¬ Rose err.faults err.faults_after → answer ≢ Memory → GivesSession s out.before out.after err.before err.after answer
gives_of s IsLine (Ok bytes) out err faults faults_after answer planned delivered counted readable out_sound err_sound enough =
    let all = all_of out bytes Done answer delivered.1 out_sound in
    let P : Session → Type 0 = λ t. GivesSession t out.before out.after err.before err.after answer in
    subst P (sym planned) (record { out = all.whole; err = untouched err delivered.0; status = all.status })
gives_of s IsLine (Err stop.Memory) out err faults faults_after answer planned delivered counted readable out_sound err_sound enough =
    absurd (enough delivered.2)
gives_of s IsLine (Err (stop.Fault fault)) out err faults faults_after answer planned delivered counted readable out_sound err_sound enough =
    let known = uncounted (is_unread fault.cause) faults faults_after counted readable in
    let is : s ≡ ends fault = decided fault.cause (IsLine fault.line) (s ≡ ends fault) planned known in
    let all = all_of err fault.line (cause_status fault.cause) answer delivered.1 err_sound in
    let P : Session → Type 0 = λ t. GivesSession t out.before out.after err.before err.after answer in
    subst P (sym is) (record { out = untouched out delivered.0; err = all.whole; status = all.status })

-- `out` got a part of the session's bytes
out_part_of : (s : Session) (IsLine : List ℕ → Type 0) (result : Result (List ℕ) Stop) (out err : SinkChange) (answer : Status) → Plans s IsLine result → Delivers result out err answer → AppendsPrefix out.before out.after s.out
out_part_of s IsLine (Ok bytes) out err answer planned delivered =
    let P : Session → Type 0 = λ t. AppendsPrefix out.before out.after t.out in
    subst P (sym planned) (part_of out bytes Done answer delivered.1)
out_part_of s IsLine (Err stop.Memory) out err answer planned delivered = none_of out s.out delivered.0
out_part_of s IsLine (Err (stop.Fault fault)) out err answer planned delivered = none_of out s.out delivered.0

-- a part of the line of a fault
line_part : (s : Session) (fault : FaultOf) (err : SinkChange) → s ≡ ends fault → AppendsPrefix err.before err.after fault.line → AppendsPrefix err.before err.after s.err
line_part s fault err is part = let P : Session → Type 0 = λ t. AppendsPrefix err.before err.after t.err in subst P (sym is) part

-- where each file was read, `err` got a part of the session's bytes
err_part_of : (s : Session) (IsLine : List ℕ → Type 0) (result : Result (List ℕ) Stop) (out err : SinkChange) (faults faults_after : ℕ) (answer : Status) → Plans s IsLine result → Delivers result out err answer → RaisesItsCount is_unread result faults faults_after → ¬ Rose faults faults_after → AppendsPrefix err.before err.after s.err
err_part_of s IsLine (Ok bytes) out err faults faults_after answer planned delivered counted readable = none_of err s.err delivered.0
err_part_of s IsLine (Err stop.Memory) out err faults faults_after answer planned delivered counted readable = none_of err s.err delivered.1
err_part_of s IsLine (Err (stop.Fault fault)) out err faults faults_after answer planned delivered counted readable =
    let known = uncounted (is_unread fault.cause) faults faults_after counted readable in
    line_part s fault err (decided fault.cause (IsLine fault.line) (s ≡ ends fault) planned known) (part_of err fault.line (cause_status fault.cause) answer delivered.1)

-- else it got a part of the line for a file that couldn't be read
err_part_or : (s : Session) (asked : Asked) (known : FileMap) (bytes : List ℕ) (result : Result (List ℕ) Stop) (out err : SinkChange) (answer : Status) → Plans s (IsUnreadLine asked known bytes) result → Delivers result out err answer → AppendsPrefix err.before err.after s.err ⊎ TellsUnread asked known bytes err.before err.after
err_part_or s asked known text (Ok bytes) out err answer planned delivered = inl (none_of err s.err delivered.0)
err_part_or s asked known text (Err stop.Memory) out err answer planned delivered = inl (none_of err s.err delivered.1)
err_part_or s asked known text (Err (stop.Fault fault)) out err answer planned delivered =
    by_line (either fault.cause (IsUnreadLine asked known text fault.line) (s ≡ ends fault) planned)
  where
    part : AppendsPrefix err.before err.after fault.line
    part = part_of err fault.line (cause_status fault.cause) answer delivered.1

    by_line : (s ≡ ends fault) ⊎ ((is_unread fault.cause ≡ true) × IsUnreadLine asked known text fault.line) → AppendsPrefix err.before err.after s.err ⊎ TellsUnread asked known text err.before err.after
    by_line (inl is) = inl (line_part s fault err is part)
    by_line (inr unread) = inr (record { line = fault.line; unread = unread.1; part = part })

-- which statuses go with what
pub not_done : (cause : FaultKind) → cause_status cause ≢ Done
not_done Missing is = absurd cc
not_done Unread is = absurd cc
not_done TooLong is = absurd cc
not_done Content is = absurd cc

-- a read fault is answered where the whole line of a fault was written
written_whole : (sink : SinkChange) (line : List ℕ) (planned answer : Status) → Writes sink line planned answer → answer ≡ ReadFault → sink.after ≡ appended sink.before line
written_whole sink line planned answer (inl all) is = all.whole
written_whole sink line planned answer (inr some) is = absurd (cc (is, some.status))

read_fault_told_of : (s : Session) (asked : Asked) (known : FileMap) (bytes : List ℕ) (result : Result (List ℕ) Stop) (out err : SinkChange) (answer : Status) → Plans s (IsUnreadLine asked known bytes) result → Delivers result out err answer → answer ≡ ReadFault → (err.after ≡ appended err.before s.err) ⊎ TellsAllUnread asked known bytes err.before err.after
read_fault_told_of s asked known text (Ok bytes) out err answer planned delivered is = absurd (printed delivered.1)
  where
    printed : Writes out bytes Done answer → ⊥
    printed (inl all) = cc (is, all.status)
    printed (inr some) = cc (is, some.status)
read_fault_told_of s asked known text (Err stop.Memory) out err answer planned delivered is = absurd (cc (is, delivered.2))
read_fault_told_of s asked known text (Err (stop.Fault fault)) out err answer planned delivered is =
    by_line (either fault.cause (IsUnreadLine asked known text fault.line) (s ≡ ends fault) planned)
  where
    whole : err.after ≡ appended err.before fault.line
    whole = written_whole err fault.line (cause_status fault.cause) answer delivered.1 is

    by_line : (s ≡ ends fault) ⊎ ((is_unread fault.cause ≡ true) × IsUnreadLine asked known text fault.line) → (err.after ≡ appended err.before s.err) ⊎ TellsAllUnread asked known text err.before err.after
    by_line (inl same) = let P : Session → Type 0 = λ t. err.after ≡ appended err.before t.err in inl (subst P (sym same) whole)
    by_line (inr unread) = inr (record { line = fault.line; unread = unread.1; whole = whole })

-- the line of a fault, whatever the files tell
tells_of : (asked : Asked) (result : Result (List ℕ) Stop) (out err : SinkChange) (longs longs_after : ℕ) (answer : Status) → IfFault result (IsFaultOfAsked asked) → Delivers result out err answer → RaisesItsCount is_too_long result longs longs_after → answer ≢ Done → answer ≢ WriteFault → answer ≢ Memory → TellsFault asked err.before err.after longs longs_after answer
tells_of asked (Ok bytes) out err longs longs_after answer told delivered counted undone written enough = absurd (printed delivered.1)
  where
    printed : Writes out bytes Done answer → ⊥
    printed (inl all) = undone all.status
    printed (inr some) = written some.status
tells_of asked (Err stop.Memory) out err longs longs_after answer told delivered counted undone written enough = absurd (enough delivered.2)
tells_of asked (Err (stop.Fault fault)) out err longs longs_after answer told delivered counted undone written enough = whole delivered.1
  where
    long : fault.cause ≡ TooLong → Rose longs longs_after
    long is = rw is at counted

    whole : Writes err fault.line (cause_status fault.cause) answer → TellsFault asked err.before err.after longs longs_after answer
    whole (inl all) = record { fault = fault; asked_for = told; line = all.whole; status = all.status; too_long = long }
    whole (inr some) = absurd (written some.status)

-- ---- what is told of files and script

pub told_map : (files : Option FileMap) (script : Option (List ℕ)) (P Q : FileMap → List ℕ → Type 0) → ((known : FileMap) (bytes : List ℕ) → P known bytes → Q known bytes) → IfTold files script P → IfTold files script Q
told_map None script P Q f told = tt
told_map (Some known) None P Q f told = tt
told_map (Some known) (Some bytes) P Q f told = f known bytes told

pub told_all : (files : Option FileMap) (script : Option (List ℕ)) (Q : FileMap → List ℕ → Type 0) → ((known : FileMap) (bytes : List ℕ) → Q known bytes) → IfTold files script Q
told_all None script Q f = tt
told_all (Some known) None Q f = tt
told_all (Some known) (Some bytes) Q f = f known bytes

pub told_known : (files : Option FileMap) (script : Option (List ℕ)) (P : FileMap → Type 0) (Q : FileMap → List ℕ → Type 0) → ((known : FileMap) (bytes : List ℕ) → files ≡ Some known → P known → script ≡ Some bytes → Q known bytes) → IfSome files P → IfTold files script Q
told_known None script P Q f told = tt
told_known (Some known) None P Q f told = tt
told_known (Some known) (Some bytes) P Q f told = f known bytes refl told refl

-- ---- faulty words

-- nothing was taken of a script
takes_none : (before after : Option (List ℕ)) → after ≡ before → Takes [] before after
takes_none before None same = sym same
takes_none before (Some rest) same = sym same

pub takes_few_none : (script : SourceChange) → script.after ≡ script.before → TakesFew script
takes_few_none script left =
    record { bytes = []; taken = takes_none script.before script.after left; few = omega arith }

usage_answer : (err : SinkChange) (answer : Status) → Writes err usage_line Usage answer → (answer ≡ Usage) ⊎ (answer ≡ WriteFault)
usage_answer err answer (inl all) = inl all.status
usage_answer err answer (inr some) = inr some.status

neither : {A : Type 0} (answer other : Status) → answer ≡ other → (answer ≡ Usage) ⊎ (answer ≡ WriteFault) → (other ≡ Usage → ⊥) → (other ≡ WriteFault → ⊥) → A
neither answer other is (inl usage) first second = absurd (first (sym is ∙ usage))
neither answer other is (inr written) first second = absurd (second (sym is ∙ written))

usage_written : (err : SinkChange) (answer : Status) → Writes err usage_line Usage answer → answer ≡ WriteFault → Rose err.faults err.faults_after
usage_written err answer (inl all) is = absurd (cc (is, all.status))
usage_written err answer (inr some) is = some.failed

pub usage_runs : (files : FilesChange) (script : SourceChange) (out err : SinkChange) (answer : Status) → files.told_after ≡ files.told → files.faults_after ≡ files.faults → files.misses_after ≡ files.misses → files.longs_after ≡ files.longs → script.after ≡ script.before → script.faults_after ≡ script.faults → IsUntouched out → Writes err usage_line Usage answer → Runs None files script out err answer
usage_runs files script out err answer kept faults misses longs left readable same written =
    let by = usage_answer err answer written in
    record {
      session = told_all files.told (Some []) _ (λ known bytes r t o e m.
          let all = all_of err usage_line Usage answer written e in
          record { out = untouched out same; err = all.whole; status = all.status });
      out_part = told_all files.told (Some []) _ (λ known bytes. none_of out [] same);
      err_part = told_all files.told (Some []) _ (λ known bytes r t. part_of err usage_line Usage answer written);
      err_part_or_unread = told_all files.told (Some []) _ (λ known bytes. inl (part_of err usage_line Usage answer written));
      usage = λ is. refl;
      faulty = λ is. by;
      faulty_told = λ is. (same, written);
      refused = λ is. neither answer Refused is by (λ w. absurd cc) (λ w. absurd cc);
      read_fault = λ is. neither answer ReadFault is by (λ w. absurd cc) (λ w. absurd cc);
      read_fault_line = λ is. neither answer ReadFault is by (λ w. absurd cc) (λ w. absurd cc);
      read_fault_told = λ is. neither answer ReadFault is by (λ w. absurd cc) (λ w. absurd cc);
      write_fault = λ is. inr (usage_written err answer written is);
      stopped = λ is rose. neither answer ReadFault is by (λ w. absurd cc) (λ w. absurd cc);
      files_unfailed = λ is. faults;
      script_unfailed = λ is. readable;
      out_unfailed = λ other. same.1;
      err_unfailed = λ other. unfailed_of err usage_line Usage answer written other;
      done_misses = λ is. misses;
      done_longs = λ is. longs;
      files_kept = kept;
      files_left = record { told = kept; faults = faults; misses = misses; longs = longs };
      script_left = (left, readable);
      script_taken = takes_few_none script left;
      script_ended = λ is. tt;
    }

-- ---- what is delivered

not_usage : (cause : FaultKind) → cause_status cause ≢ Usage
not_usage Missing is = absurd cc
not_usage Unread is = absurd cc
not_usage TooLong is = absurd cc
not_usage Content is = absurd cc

pub written_other : (sink : SinkChange) (bytes : List ℕ) (planned answer other : Status) → Writes sink bytes planned answer → answer ≡ other → planned ≢ other → other ≢ WriteFault → ⊥
written_other sink bytes planned answer other (inl all) is un write = un (sym all.status ∙ is)
written_other sink bytes planned answer other (inr some) is un write = write (sym is ∙ some.status)

delivered_unused : (result : Result (List ℕ) Stop) (out err : SinkChange) (answer : Status) → Delivers result out err answer → answer ≢ Usage
delivered_unused (Ok bytes) out err answer delivered is = written_other out bytes Done answer Usage delivered.1 is (λ w. absurd cc) (λ w. absurd cc)
delivered_unused (Err stop.Memory) out err answer delivered is = absurd (cc (is, delivered.2))
delivered_unused (Err (stop.Fault fault)) out err answer delivered is = written_other err fault.line (cause_status fault.cause) answer Usage delivered.1 is (not_usage fault.cause) (λ w. absurd cc)

fault_read : (cause : FaultKind) (faults faults_after misses misses_after : ℕ) → cause_status cause ≡ ReadFault → Counted (is_unread cause) faults faults_after → Counted (is_missing cause) misses misses_after → Rose faults faults_after ⊎ Rose misses misses_after
fault_read Missing faults faults_after misses misses_after is unread missing = inr missing
fault_read Unread faults faults_after misses misses_after is unread missing = inl unread
fault_read TooLong faults faults_after misses misses_after is unread missing = absurd cc
fault_read Content faults faults_after misses misses_after is unread missing = absurd cc

delivered_status : (sink : SinkChange) (line : List ℕ) (planned answer other : Status) → Writes sink line planned answer → answer ≡ other → other ≢ WriteFault → planned ≡ other
delivered_status sink line planned answer other (inl all) is write = sym all.status ∙ is
delivered_status sink line planned answer other (inr some) is write = absurd (write (sym is ∙ some.status))

delivered_read : (result : Result (List ℕ) Stop) (out err : SinkChange) (faults faults_after misses misses_after : ℕ) (answer : Status) → Delivers result out err answer → RaisesItsCount is_unread result faults faults_after → RaisesItsCount is_missing result misses misses_after → answer ≡ ReadFault → Rose faults faults_after ⊎ Rose misses misses_after
delivered_read (Ok bytes) out err faults faults_after misses misses_after answer delivered unread missing is = absurd (written_other out bytes Done answer ReadFault delivered.1 is (λ w. absurd cc) (λ w. absurd cc))
delivered_read (Err stop.Memory) out err faults faults_after misses misses_after answer delivered unread missing is = absurd (cc (is, delivered.2))
delivered_read (Err (stop.Fault fault)) out err faults faults_after misses misses_after answer delivered unread missing is =
    fault_read fault.cause faults faults_after misses misses_after (delivered_status err fault.line (cause_status fault.cause) answer ReadFault delivered.1 is (λ w. absurd cc)) unread missing

pub sink_failed : (sink : SinkChange) (bytes : List ℕ) (planned answer : Status) → Writes sink bytes planned answer → answer ≡ WriteFault → planned ≢ WriteFault → Rose sink.faults sink.faults_after
sink_failed sink bytes planned answer (inl all) is un = absurd (un (sym all.status ∙ is))
sink_failed sink bytes planned answer (inr some) is un = some.failed

never_written : (cause : FaultKind) → cause_status cause ≢ WriteFault
never_written Missing is = absurd cc
never_written Unread is = absurd cc
never_written TooLong is = absurd cc
never_written Content is = absurd cc

delivered_failed : (result : Result (List ℕ) Stop) (out err : SinkChange) (answer : Status) → Delivers result out err answer → answer ≡ WriteFault → Rose out.faults out.faults_after ⊎ Rose err.faults err.faults_after
delivered_failed (Ok bytes) out err answer delivered is = inl (sink_failed out bytes Done answer delivered.1 is (λ w. absurd cc))
delivered_failed (Err stop.Memory) out err answer delivered is = absurd (cc (is, delivered.2))
delivered_failed (Err (stop.Fault fault)) out err answer delivered is = inr (sink_failed err fault.line (cause_status fault.cause) answer delivered.1 is (never_written fault.cause))

-- a count that no fault of this answer raises
count_kept : (counted : Bool) (before after : ℕ) → counted ≡ false → Counted counted before after → after ≡ before
count_kept true before after is same = absurd cc
count_kept false before after is same = same

unread_status : (cause : FaultKind) (answer : Status) → is_unfailed answer ≡ true → answer ≡ cause_status cause → is_unread cause ≡ false
unread_status Missing answer sound is = refl
unread_status Unread answer sound is = absurd (cc (sound, ap is_unfailed is))
unread_status TooLong answer sound is = refl
unread_status Content answer sound is = refl

sound_status : (sink : SinkChange) (line : List ℕ) (planned answer : Status) → Writes sink line planned answer → is_unfailed answer ≡ true → answer ≡ planned
sound_status sink line planned answer (inl all) sound = all.status
sound_status sink line planned answer (inr some) sound = absurd (cc (sound, ap is_unfailed some.status))

delivered_readable : (result : Result (List ℕ) Stop) (out err : SinkChange) (faults faults_after : ℕ) (answer : Status) → Delivers result out err answer → RaisesItsCount is_unread result faults faults_after → is_unfailed answer ≡ true → faults_after ≡ faults
delivered_readable (Ok bytes) out err faults faults_after answer delivered unread sound = unread
delivered_readable (Err stop.Memory) out err faults faults_after answer delivered unread sound = absurd (cc (sound, ap is_unfailed delivered.2))
delivered_readable (Err (stop.Fault fault)) out err faults faults_after answer delivered unread sound =
    count_kept (is_unread fault.cause) faults faults_after (unread_status fault.cause answer sound (sound_status err fault.line (cause_status fault.cause) answer delivered.1 sound)) unread

delivered_done : (test : FaultKind → Bool) (result : Result (List ℕ) Stop) (out err : SinkChange) (before after : ℕ) (answer : Status) → Delivers result out err answer → RaisesItsCount test result before after → answer ≡ Done → after ≡ before
delivered_done test (Ok bytes) out err before after answer delivered counted is = counted
delivered_done test (Err stop.Memory) out err before after answer delivered counted is = absurd (cc (is, delivered.2))
delivered_done test (Err (stop.Fault fault)) out err before after answer delivered counted is = absurd (written_other err fault.line (cause_status fault.cause) answer Done delivered.1 is (not_done fault.cause) (λ w. absurd cc))

leaves : (asked : Asked) (told : Option FileMap) (script : SourceChange) → script.after ≡ script.before → script.faults_after ≡ script.faults → LeavesScript (Some asked) told script
leaves (Print printing) told script left readable = (left, readable)
leaves (Edit words) None script left readable = tt
leaves (Edit words) (Some known) script left readable = λ fault is. (left, readable)
leaves (Large words) told script left readable = (left, readable)

-- a script of which nothing was read, while `out` wasn't touched
stops_at_start : (asked : Asked) (files : Option FileMap) (script : SourceChange) (out : SinkChange) → script.after ≡ script.before → out.after ≡ appended out.before [] → IfSome files (λ known. StopsSoFar (Some asked) known script out)
stops_at_start asked None script out left same = tt
stops_at_start (Print printing) (Some known) script out left same = tt
stops_at_start (Large words) (Some known) script out left same = tt
stops_at_start (Edit words) (Some known) script out left same =
    λ painted is. record { bytes = []; taken = takes_none script.before script.after left; printed = same }

-- where the answer is a read fault, `out` wasn't touched
out_left : (result : Result (List ℕ) Stop) (out err : SinkChange) (answer : Status) → Delivers result out err answer → answer ≡ ReadFault → out.after ≡ appended out.before []
out_left (Ok bytes) out err answer delivered is = absurd (written_other out bytes Done answer ReadFault delivered.1 is (λ w. absurd cc) (λ w. absurd cc))
out_left (Err stop.Memory) out err answer delivered is = untouched out delivered.0
out_left (Err (stop.Fault fault)) out err answer delivered is = untouched out delivered.0

pub delivered_runs : (asked : Asked) (result : Result (List ℕ) Stop) (files : FilesChange) (script : SourceChange) (out err : SinkChange) (answer : Status) →
    IfTold files.told (script_read (Some asked) script.before) (λ known bytes. Plans (asked_session asked known bytes) (IsUnreadLine asked known bytes) result) →
    IfFault result (IsFaultOfAsked asked) → RaisesItsCount is_unread result files.faults files.faults_after → RaisesItsCount is_missing result files.misses files.misses_after → RaisesItsCount is_too_long result files.longs files.longs_after →
    files.told_after ≡ files.told → LeavesFiles (Some asked) files → script.after ≡ script.before → script.faults_after ≡ script.faults → Delivers result out err answer → (answer ≡ Done → EndsScript (Some asked) files.told script out) →
    Runs (Some asked) files script out err answer
delivered_runs asked result files script out err answer planned told unread missing long kept alone left readable delivered ended =
    let scripts = script_read (Some asked) script.before in
    let Q : FileMap → List ℕ → Type 0 = λ known bytes. Plans (asked_session asked known bytes) (IsUnreadLine asked known bytes) result in
    record {
      session = told_map files.told scripts Q _ (λ known bytes plan r t o e m. gives_of (asked_session asked known bytes) (IsUnreadLine asked known bytes) result out err files.faults files.faults_after answer plan delivered unread r o e m) planned;
      out_part = told_map files.told scripts Q _ (λ known bytes plan. out_part_of (asked_session asked known bytes) (IsUnreadLine asked known bytes) result out err answer plan delivered) planned;
      err_part = told_map files.told scripts Q _ (λ known bytes plan r t. err_part_of (asked_session asked known bytes) (IsUnreadLine asked known bytes) result out err files.faults files.faults_after answer plan delivered unread r) planned;
      err_part_or_unread = told_map files.told scripts Q _ (λ known bytes plan. err_part_or (asked_session asked known bytes) asked known bytes result out err answer plan delivered) planned;
      faulty = λ w. absurd (cc w);
      faulty_told = λ w. absurd (cc w);
      usage = λ is. absurd (delivered_unused result out err answer delivered is);
      refused = λ is. inl (tells_of asked result out err files.longs files.longs_after answer told delivered long (λ w. absurd (cc (is, w))) (λ w. absurd (cc (is, w))) (λ w. absurd (cc (is, w))), (left, readable));
      read_fault = λ is. by_cause (delivered_read result out err files.faults files.faults_after files.misses files.misses_after answer delivered unread missing is);
      read_fault_line = λ is. inl (tells_of asked result out err files.longs files.longs_after answer told delivered long (λ w. absurd (cc (is, w))) (λ w. absurd (cc (is, w))) (λ w. absurd (cc (is, w))), (left, readable));
      read_fault_told = λ is. told_map files.told scripts Q _ (λ known bytes plan. read_fault_told_of (asked_session asked known bytes) asked known bytes result out err answer plan delivered is) planned;
      write_fault = λ is. delivered_failed result out err answer delivered is;
      stopped = λ is rose. inl (stops_at_start asked files.told script out left (out_left result out err answer delivered is));
      files_unfailed = λ sound. delivered_readable result out err files.faults files.faults_after answer delivered unread sound;
      script_unfailed = λ sound. readable;
      out_unfailed = λ other. out_unfailed result out err answer delivered other;
      err_unfailed = λ other. err_unfailed result out err answer delivered other;
      done_misses = λ is. delivered_done is_missing result out err files.misses files.misses_after answer delivered missing is;
      done_longs = λ is. delivered_done is_too_long result out err files.longs files.longs_after answer delivered long is;
      files_kept = kept;
      files_left = alone;
      script_left = leaves asked files.told script left readable;
      script_taken = takes_few_none script left;
      script_ended = ended;
    }
  where
    by_cause : Rose files.faults files.faults_after ⊎ Rose files.misses files.misses_after → Rose files.faults files.faults_after ⊎ Rose files.misses files.misses_after ⊎ Rose script.faults script.faults_after
    by_cause (inl rose) = inl rose
    by_cause (inr rose) = inr (inl rose)
