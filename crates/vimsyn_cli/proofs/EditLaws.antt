-- What a session of edits on a painted text comes to.
use Rattle.std.proofs.Common.{◌≡◌, ◌≢◌, ℕ, ◌+◌, ◌≤◌, Bool, true, false, List, refl, ap, subst, sym, ◌∙◌, inl, inr, arith}
use Rattle.std.specs.Prelude.{Option, Some, None, Ok, Err, Result, IfSome}
use Rattle.edit_session.specs.declared.reading.End.{End}
use Rattle.edit_session.specs.declared.reading.End.TheVariants as end
use Rattle.edit_session.specs.Ends.{EndsSo, HasCause, IfKnown, IsUnreadOf, SinkChange, SourceChange, StopsAtFile, TakesFew, files_change}
use Rattle.edit_session.specs.Session.{entries_read, is_too_long, session}
use Rattle.edit_session.proofs.EndLaws.{over_told, whole_told}
use Rattle.program_words.specs.declared.words.Asked.TheVariants.{Edit}
use Rattle.program_words.specs.Given.{PageWords, PaintWords}
use Rattle.state_cache.specs.PaintedText.{IsPainted, PaintedText}
use Rattle.syn_base.specs.Outside.{AppendsPrefix, FileMap, appended}
use Rattle.vimsyn_cli.specs.declared.fault.Fault.{Fault as FaultOf}
use Rattle.vimsyn_cli.specs.declared.fault.FaultKind.{FaultKind}
use Rattle.vimsyn_cli.specs.declared.fault.Stop.{Stop}
use Rattle.vimsyn_cli.specs.declared.fault.Stop.TheVariants as stop
use Rattle.vimsyn_cli.specs.declared.status.Status.{Status}
use Rattle.vimsyn_cli.specs.declared.status.Status.TheVariants.{Done, Refused, ReadFault, WriteFault, Memory}
use Rattle.vimsyn_cli.specs.Answers.{Closes, Delivers, GivesSession, IsFaultOfAsked, IsUnreadLine, IsUnreadNamed, IsUntouched, WroteAll, WroteSome, is_unfailed}
use Rattle.vimsyn_cli.specs.Changes.{FilesChange}
use Rattle.vimsyn_cli.specs.Editing.{script_status}
use Rattle.vimsyn_cli.specs.EditRun.{edit_session, edit_start, edit_told, script_answer, script_end, script_lines}
use Rattle.vimsyn_cli.specs.Painting.{IsPaintFault, IsUnreadPaint, painting_told, text_told}
use Rattle.vimsyn_cli.specs.Plans.{FollowsFiles, IfFault, IsExpected, RaisesItsCount}
use Rattle.vimsyn_cli.specs.Renewal.{library_of}
use Rattle.vimsyn_cli.specs.Report.{long_script, unread_script}
use Rattle.vimsyn_cli.specs.Runs.{EditsPainted, IfTold, LeavesScript, PrintsSoFar, Runs, StopsSoFar}
use Rattle.vimsyn_cli.specs.Session.{edit_lines, lines_in, told_lines}
use Rattle.vimsyn_cli.specs.Written.{Session, ends}
use Rattle.vimsyn_cli.proofs.PlanLaws.{Plans, led}
use Rattle.vimsyn_cli.proofs.RunLaws.{none_of, not_done, part_of, told_known, untouched}

-- the session of a text that is painted, where the length of its script is known
session_is : (words : PageWords) (painted : PaintedText) (known : FileMap) (bytes : List ℕ) (long : Bool) → painting_told words.painting known ≡ Ok painted → is_too_long bytes ≡ long → edit_session words known bytes ≡ script_end long (script_answer words known painted bytes)
session_is words painted known bytes long is size =
    ap (edit_told words known bytes) is ∙ ap (λ (l : Bool). script_end l (script_answer words known painted bytes)) size

out_by : (words : PageWords) (painted : PaintedText) (known : FileMap) (bytes : List ℕ) (long : Bool) → (script_end long (script_answer words known painted bytes)).out ≡ (script_answer words known painted bytes).text
out_by words painted known bytes true = refl
out_by words painted known bytes false = refl

out_is : (words : PageWords) (painted : PaintedText) (known : FileMap) (bytes : List ℕ) → painting_told words.painting known ≡ Ok painted → (edit_session words known bytes).out ≡ (script_answer words known painted bytes).text
out_is words painted known bytes is =
    ap (λ (s : Session). s.out) (session_is words painted known bytes (is_too_long bytes) is refl) ∙ out_by words painted known bytes (is_too_long bytes)

-- `out` got a part of what the script prints
part_is : (words : PageWords) (painted : PaintedText) (known : FileMap) (bytes : List ℕ) (source : SourceChange) (sink : SinkChange) → painting_told words.painting known ≡ Ok painted → source.before ≡ Some bytes → IfSome source.before (λ all. AppendsPrefix sink.before sink.after (script_answer words known painted all).text) → AppendsPrefix sink.before sink.after (edit_session words known bytes).out
part_is words painted known bytes source sink is at part =
    let P : List ℕ → Type 0 = AppendsPrefix sink.before sink.after in
    let S : Option (List ℕ) → Type 0 = λ o. IfSome o (λ all. AppendsPrefix sink.before sink.after (script_answer words known painted all).text) in
    let told : AppendsPrefix sink.before sink.after (script_answer words known painted bytes).text = subst S at part in
    subst P (sym (out_is words painted known bytes is)) told

-- the session whose script was read to its end
whole_gives : (words : PageWords) (painted : PaintedText) (known : FileMap) (bytes : List ℕ) (refused : Bool) (out err : SinkChange) (answer : Status) → painting_told words.painting known ≡ Ok painted → (is_too_long bytes ≡ false) × (out.after ≡ appended out.before (script_answer words known painted bytes).text) × ((script_answer words known painted bytes).stands.refused ≡ refused) → IsUntouched err → answer ≡ script_status refused → GivesSession (edit_session words known bytes) out.before out.after err.before err.after answer
whole_gives words painted known bytes refused out err answer is told same at =
    let P : Session → Type 0 = λ s. GivesSession s out.before out.after err.before err.after answer in
    subst P (sym (session_is words painted known bytes false is told.0))
    (record { out = told.1; err = untouched err same; status = at ∙ ap script_status (sym told.2) })

-- the session of a script of too many bytes
over_gives : (words : PageWords) (painted : PaintedText) (known : FileMap) (bytes : List ℕ) (out err : SinkChange) (answer : Status) → painting_told words.painting known ≡ Ok painted → (is_too_long bytes ≡ true) × (out.after ≡ appended out.before (script_answer words known painted bytes).text) → err.after ≡ appended err.before long_script → answer ≡ Refused → GivesSession (edit_session words known bytes) out.before out.after err.before err.after answer
over_gives words painted known bytes out err answer is told line at =
    let P : Session → Type 0 = λ s. GivesSession s out.before out.after err.before err.after answer in
    subst P (sym (session_is words painted known bytes true is told.0)) (record { out = told.1; err = line; status = at })

over_err : (words : PageWords) (painted : PaintedText) (known : FileMap) (bytes : List ℕ) (err : SinkChange) → painting_told words.painting known ≡ Ok painted → is_too_long bytes ≡ true → AppendsPrefix err.before err.after long_script → AppendsPrefix err.before err.after (edit_session words known bytes).err
over_err words painted known bytes err is size part =
    let P : Session → Type 0 = λ s. AppendsPrefix err.before err.after s.err in
    subst P (sym (session_is words painted known bytes true is size)) part

same_painted : (a b : PaintedText) (e : Result PaintedText FaultOf) → e ≡ Ok a → e ≡ Ok b → a ≡ b
same_painted a b e first second = cc

-- what `out` got is what the commands print whose last line was read
stopped_told : (words : PageWords) (painted : PaintedText) (told : Option FileMap) (script : SourceChange) (out : SinkChange) → IfSome told (λ known. painting_told words.painting known ≡ Ok painted) → IfKnown told (λ known. EndsSo (library_of words painted.budget known) (edit_start words painted) script out end.Unread) → IfSome told (λ known. StopsSoFar (Some (Edit words)) known script out)
stopped_told words painted None script out told ends = tt
stopped_told words painted (Some known) script out told ends =
    λ other is.
    let P : PaintedText → Type 0 = λ p. PrintsSoFar words known p script out in
    let fails = ends known refl in
    subst P (same_painted painted other (painting_told words.painting known) told is) (record { bytes = fails.bytes; taken = fails.taken; printed = fails.written })

-- the line is one for a syntax that the script names
named_unread : (words : PageWords) (painted : PaintedText) (known : FileMap) (bytes : List ℕ) (script : SourceChange) (line : List ℕ) → painting_told words.painting known ≡ Ok painted → script.before ≡ Some bytes → StopsAtFile (library_of words painted.budget known) (edit_start words painted) script line → IsUnreadNamed words known bytes line
named_unread words painted known bytes script line is at stops =
    let S : Option (List ℕ) → Type 0 = λ o. IfSome o (λ all. IsUnreadOf (library_of words painted.budget known) (session (library_of words painted.budget known) (edit_start words painted) (entries_read all)).asked line) in
    let told : IsUnreadOf (library_of words painted.budget known) (script_answer words known painted bytes).asked line = subst S at stops in
    record { painted = painted; accepted = is; unread = told }

-- a painting that is accepted isn't refused
unrefused : (words : PageWords) (painted : PaintedText) (told : Option FileMap) (script : SourceChange) → IfSome told (λ known. painting_told words.painting known ≡ Ok painted) → LeavesScript (Some (Edit words)) told script
unrefused words painted None script is = tt
unrefused words painted (Some known) script is = λ fault other. absurd (cc (is, other))

-- ---- how the script ended

done_runs : (words : PageWords) (painted : PaintedText) (files : FilesChange) (script : SourceChange) (out err : SinkChange) (answer : Status) → IfSome files.told (λ known. painting_told words.painting known ≡ Ok painted) → files.told_after ≡ files.told → IfKnown files.told (λ known. IfSome script.before (λ bytes. AppendsPrefix out.before out.after (script_answer words known painted bytes).text)) → IsPainted painted → TakesFew script → IfKnown files.told (λ known. EndsSo (library_of words painted.budget known) (edit_start words painted) script out end.Done) → HasCause script out files end.Done → IsUntouched err → answer ≡ Done → Runs (Some (Edit words)) files script out err answer
done_runs words painted files script out err answer told kept part sound few ends causes same done = record {
  session = told_known files.told script.before (λ known. painting_told words.painting known ≡ Ok painted) _ (λ known bytes at is told' r t o e m. whole_gives words painted known bytes false out err answer is (whole_told (library_of words painted.budget known) (edit_start words painted) false script out bytes (ends known at) told') same done) told;
  out_part = told_known files.told script.before (λ known. painting_told words.painting known ≡ Ok painted) _ (λ known bytes at is told'. part_is words painted known bytes script out is told' (part known at)) told;
  err_part = told_known files.told script.before (λ known. painting_told words.painting known ≡ Ok painted) _ (λ known bytes at is told' r t. none_of err (edit_session words known bytes).err same) told;
  err_part_or_unread = told_known files.told script.before (λ known. painting_told words.painting known ≡ Ok painted) _ (λ known bytes at is told'. inl (none_of err (edit_session words known bytes).err same)) told;
  faulty = λ w. absurd (cc w);
  faulty_told = λ w. absurd (cc w);
  usage = λ is. absurd (cc (is, done));
  refused = λ is. absurd (cc (is, done));
  read_fault = λ is. absurd (cc (is, done));
  read_fault_line = λ is. absurd (cc (is, done));
  read_fault_told = λ is. absurd (cc (is, done));
  write_fault = λ is. absurd (cc (is, done));
  stopped = λ is rose. absurd (cc (is, done));
  files_unfailed = λ sound. causes.2;
  script_unfailed = λ sound. causes.0.1;
  out_unfailed = λ other. causes.1;
  err_unfailed = λ other. same.1;
  done_misses = λ is. causes.3;
  done_longs = λ is. causes.4;
  files_kept = kept;
  files_left = tt;
  script_left = unrefused words painted files.told script told;
  script_taken = few;
  script_ended = λ is. record { painted = painted; is_painted = sound; of_files = told; whole = causes.0; read = ends };
}

refused_runs : (words : PageWords) (painted : PaintedText) (files : FilesChange) (script : SourceChange) (out err : SinkChange) (answer : Status) → IfSome files.told (λ known. painting_told words.painting known ≡ Ok painted) → files.told_after ≡ files.told → IfKnown files.told (λ known. IfSome script.before (λ bytes. AppendsPrefix out.before out.after (script_answer words known painted bytes).text)) → IsPainted painted → TakesFew script → IfKnown files.told (λ known. EndsSo (library_of words painted.budget known) (edit_start words painted) script out end.Refused) → HasCause script out files end.Refused → IsUntouched err → answer ≡ Refused → Runs (Some (Edit words)) files script out err answer
refused_runs words painted files script out err answer told kept part sound few ends causes same done = record {
  session = told_known files.told script.before (λ known. painting_told words.painting known ≡ Ok painted) _ (λ known bytes at is told' r t o e m. whole_gives words painted known bytes true out err answer is (whole_told (library_of words painted.budget known) (edit_start words painted) true script out bytes (ends known at) told') same done) told;
  out_part = told_known files.told script.before (λ known. painting_told words.painting known ≡ Ok painted) _ (λ known bytes at is told'. part_is words painted known bytes script out is told' (part known at)) told;
  err_part = told_known files.told script.before (λ known. painting_told words.painting known ≡ Ok painted) _ (λ known bytes at is told' r t. none_of err (edit_session words known bytes).err same) told;
  err_part_or_unread = told_known files.told script.before (λ known. painting_told words.painting known ≡ Ok painted) _ (λ known bytes at is told'. inl (none_of err (edit_session words known bytes).err same)) told;
  faulty = λ w. absurd (cc w);
  faulty_told = λ w. absurd (cc w);
  usage = λ is. absurd (cc (is, done));
  refused = λ is. inr (inr (same.0, record { painted = painted; is_painted = sound; of_files = told; whole = causes.0; read = ends }));
  read_fault = λ is. absurd (cc (is, done));
  read_fault_line = λ is. absurd (cc (is, done));
  read_fault_told = λ is. absurd (cc (is, done));
  write_fault = λ is. absurd (cc (is, done));
  stopped = λ is rose. absurd (cc (is, done));
  files_unfailed = λ sound. causes.2;
  script_unfailed = λ sound. causes.0.1;
  out_unfailed = λ other. causes.1;
  err_unfailed = λ other. same.1;
  done_misses = λ is. absurd (cc (is, done));
  done_longs = λ is. absurd (cc (is, done));
  files_kept = kept;
  files_left = tt;
  script_left = unrefused words painted files.told script told;
  script_taken = few;
  script_ended = λ is. absurd (cc (is, done));
}

over_runs : (words : PageWords) (painted : PaintedText) (files : FilesChange) (script : SourceChange) (out err : SinkChange) (answer : Status) → IfSome files.told (λ known. painting_told words.painting known ≡ Ok painted) → files.told_after ≡ files.told → IfKnown files.told (λ known. IfSome script.before (λ bytes. AppendsPrefix out.before out.after (script_answer words known painted bytes).text)) → IsPainted painted → TakesFew script → IfKnown files.told (λ known. EndsSo (library_of words painted.budget known) (edit_start words painted) script out end.TooLong) → HasCause script out files end.TooLong → WroteAll err.before err.after err.faults err.faults_after long_script Refused answer → Runs (Some (Edit words)) files script out err answer
over_runs words painted files script out err answer told kept part sound few ends causes all = record {
  session = told_known files.told script.before (λ known. painting_told words.painting known ≡ Ok painted) _ (λ known bytes at is told' r t o e m. over_gives words painted known bytes out err answer is (over_told (library_of words painted.budget known) (edit_start words painted) script out bytes (ends known at) told') all.whole all.status) told;
  out_part = told_known files.told script.before (λ known. painting_told words.painting known ≡ Ok painted) _ (λ known bytes at is told'. part_is words painted known bytes script out is told' (part known at)) told;
  err_part = told_known files.told script.before (λ known. painting_told words.painting known ≡ Ok painted) _ (λ known bytes at is told' r t. over_err words painted known bytes err is (over_told (library_of words painted.budget known) (edit_start words painted) script out bytes (ends known at) told').0 (part_of err long_script Refused answer (inl all))) told;
  err_part_or_unread = told_known files.told script.before (λ known. painting_told words.painting known ≡ Ok painted) _ (λ known bytes at is told'. inl (over_err words painted known bytes err is (over_told (library_of words painted.budget known) (edit_start words painted) script out bytes (ends known at) told').0 (part_of err long_script Refused answer (inl all)))) told;
  faulty = λ w. absurd (cc w);
  faulty_told = λ w. absurd (cc w);
  usage = λ is. absurd (cc (is, all.status));
  refused = λ is. inr (inl (all.whole, causes.0));
  read_fault = λ is. absurd (cc (is, all.status));
  read_fault_line = λ is. absurd (cc (is, all.status));
  read_fault_told = λ is. absurd (cc (is, all.status));
  write_fault = λ is. absurd (cc (is, all.status));
  stopped = λ is rose. absurd (cc (is, all.status));
  files_unfailed = λ sound. causes.3;
  script_unfailed = λ sound. causes.1;
  out_unfailed = λ other. causes.2;
  err_unfailed = λ other. all.unfailed;
  done_misses = λ is. absurd (cc (is, all.status));
  done_longs = λ is. absurd (cc (is, all.status));
  files_kept = kept;
  files_left = tt;
  script_left = unrefused words painted files.told script told;
  script_taken = few;
  script_ended = λ is. absurd (cc (is, all.status));
}

over_cut_runs : (words : PageWords) (painted : PaintedText) (files : FilesChange) (script : SourceChange) (out err : SinkChange) (answer : Status) → IfSome files.told (λ known. painting_told words.painting known ≡ Ok painted) → files.told_after ≡ files.told → IfKnown files.told (λ known. IfSome script.before (λ bytes. AppendsPrefix out.before out.after (script_answer words known painted bytes).text)) → IsPainted painted → TakesFew script → IfKnown files.told (λ known. EndsSo (library_of words painted.budget known) (edit_start words painted) script out end.TooLong) → HasCause script out files end.TooLong → WroteSome err.before err.after err.faults err.faults_after long_script answer → Runs (Some (Edit words)) files script out err answer
over_cut_runs words painted files script out err answer told kept part sound few ends causes some = record {
  session = told_known files.told script.before (λ known. painting_told words.painting known ≡ Ok painted) _ (λ known bytes at is told' r t o e m. absurd (e some.failed)) told;
  out_part = told_known files.told script.before (λ known. painting_told words.painting known ≡ Ok painted) _ (λ known bytes at is told'. part_is words painted known bytes script out is told' (part known at)) told;
  err_part = told_known files.told script.before (λ known. painting_told words.painting known ≡ Ok painted) _ (λ known bytes at is told' r t. over_err words painted known bytes err is (over_told (library_of words painted.budget known) (edit_start words painted) script out bytes (ends known at) told').0 (part_of err long_script Refused answer (inr some))) told;
  err_part_or_unread = told_known files.told script.before (λ known. painting_told words.painting known ≡ Ok painted) _ (λ known bytes at is told'. inl (over_err words painted known bytes err is (over_told (library_of words painted.budget known) (edit_start words painted) script out bytes (ends known at) told').0 (part_of err long_script Refused answer (inr some)))) told;
  faulty = λ w. absurd (cc w);
  faulty_told = λ w. absurd (cc w);
  usage = λ is. absurd (cc (is, some.status));
  refused = λ is. absurd (cc (is, some.status));
  read_fault = λ is. absurd (cc (is, some.status));
  read_fault_line = λ is. absurd (cc (is, some.status));
  read_fault_told = λ is. absurd (cc (is, some.status));
  write_fault = λ is. inr some.failed;
  stopped = λ is rose. absurd (cc (is, some.status));
  files_unfailed = λ sound. causes.3;
  script_unfailed = λ sound. causes.1;
  out_unfailed = λ other. causes.2;
  err_unfailed = λ other. absurd (other some.status);
  done_misses = λ is. absurd (cc (is, some.status));
  done_longs = λ is. absurd (cc (is, some.status));
  files_kept = kept;
  files_left = tt;
  script_left = unrefused words painted files.told script told;
  script_taken = few;
  script_ended = λ is. absurd (cc (is, some.status));
}

unread_runs : (words : PageWords) (painted : PaintedText) (files : FilesChange) (script : SourceChange) (out err : SinkChange) (answer : Status) → IfSome files.told (λ known. painting_told words.painting known ≡ Ok painted) → files.told_after ≡ files.told → IfKnown files.told (λ known. IfSome script.before (λ bytes. AppendsPrefix out.before out.after (script_answer words known painted bytes).text)) → IsPainted painted → TakesFew script → IfKnown files.told (λ known. EndsSo (library_of words painted.budget known) (edit_start words painted) script out end.Unread) → HasCause script out files end.Unread → WroteAll err.before err.after err.faults err.faults_after unread_script ReadFault answer → Runs (Some (Edit words)) files script out err answer
unread_runs words painted files script out err answer told kept part sound few ends causes all = record {
  session = told_known files.told script.before (λ known. painting_told words.painting known ≡ Ok painted) _ (λ known bytes at is told' r t o e m. absurd (t causes.0)) told;
  out_part = told_known files.told script.before (λ known. painting_told words.painting known ≡ Ok painted) _ (λ known bytes at is told'. part_is words painted known bytes script out is told' (part known at)) told;
  err_part = told_known files.told script.before (λ known. painting_told words.painting known ≡ Ok painted) _ (λ known bytes at is told' r t. absurd (t causes.0)) told;
  err_part_or_unread = told_known files.told script.before (λ known. painting_told words.painting known ≡ Ok painted) _ (λ known bytes at is told'. inr (record { line = unread_script; unread = inr (inl (record { painted = painted; accepted = is }, refl)); part = part_of err unread_script ReadFault answer (inl all) })) told;
  faulty = λ w. absurd (cc w);
  faulty_told = λ w. absurd (cc w);
  usage = λ is. absurd (cc (is, all.status));
  refused = λ is. absurd (cc (is, all.status));
  read_fault = λ is. inr (inr causes.0);
  read_fault_line = λ is. inr (inl (all.whole, causes.0));
  read_fault_told = λ fault. told_known files.told script.before (λ known. painting_told words.painting known ≡ Ok painted) _ (λ known bytes at is told'. inr (record { line = unread_script; unread = inr (inl (record { painted = painted; accepted = is }, refl)); whole = all.whole })) told;
  write_fault = λ is. absurd (cc (is, all.status));
  stopped = λ is rose. inl (stopped_told words painted files.told script out told ends);
  files_unfailed = λ sound. absurd (cc (sound, ap is_unfailed all.status));
  script_unfailed = λ sound. absurd (cc (sound, ap is_unfailed all.status));
  out_unfailed = λ other. causes.1;
  err_unfailed = λ other. all.unfailed;
  done_misses = λ is. absurd (cc (is, all.status));
  done_longs = λ is. absurd (cc (is, all.status));
  files_kept = kept;
  files_left = tt;
  script_left = unrefused words painted files.told script told;
  script_taken = few;
  script_ended = λ is. absurd (cc (is, all.status));
}

unread_cut_runs : (words : PageWords) (painted : PaintedText) (files : FilesChange) (script : SourceChange) (out err : SinkChange) (answer : Status) → IfSome files.told (λ known. painting_told words.painting known ≡ Ok painted) → files.told_after ≡ files.told → IfKnown files.told (λ known. IfSome script.before (λ bytes. AppendsPrefix out.before out.after (script_answer words known painted bytes).text)) → IsPainted painted → TakesFew script → IfKnown files.told (λ known. EndsSo (library_of words painted.budget known) (edit_start words painted) script out end.Unread) → HasCause script out files end.Unread → WroteSome err.before err.after err.faults err.faults_after unread_script answer → Runs (Some (Edit words)) files script out err answer
unread_cut_runs words painted files script out err answer told kept part sound few ends causes some = record {
  session = told_known files.told script.before (λ known. painting_told words.painting known ≡ Ok painted) _ (λ known bytes at is told' r t o e m. absurd (t causes.0)) told;
  out_part = told_known files.told script.before (λ known. painting_told words.painting known ≡ Ok painted) _ (λ known bytes at is told'. part_is words painted known bytes script out is told' (part known at)) told;
  err_part = told_known files.told script.before (λ known. painting_told words.painting known ≡ Ok painted) _ (λ known bytes at is told' r t. absurd (t causes.0)) told;
  err_part_or_unread = told_known files.told script.before (λ known. painting_told words.painting known ≡ Ok painted) _ (λ known bytes at is told'. inr (record { line = unread_script; unread = inr (inl (record { painted = painted; accepted = is }, refl)); part = part_of err unread_script ReadFault answer (inr some) })) told;
  faulty = λ w. absurd (cc w);
  faulty_told = λ w. absurd (cc w);
  usage = λ is. absurd (cc (is, some.status));
  refused = λ is. absurd (cc (is, some.status));
  read_fault = λ is. absurd (cc (is, some.status));
  read_fault_line = λ is. absurd (cc (is, some.status));
  read_fault_told = λ is. absurd (cc (is, some.status));
  write_fault = λ is. inr some.failed;
  stopped = λ is rose. absurd (cc (is, some.status));
  files_unfailed = λ sound. absurd (cc (sound, ap is_unfailed some.status));
  script_unfailed = λ sound. absurd (cc (sound, ap is_unfailed some.status));
  out_unfailed = λ other. causes.1;
  err_unfailed = λ other. absurd (other some.status);
  done_misses = λ is. absurd (cc (is, some.status));
  done_longs = λ is. absurd (cc (is, some.status));
  files_kept = kept;
  files_left = tt;
  script_left = unrefused words painted files.told script told;
  script_taken = few;
  script_ended = λ is. absurd (cc (is, some.status));
}

unfetched_runs : (words : PageWords) (painted : PaintedText) (files : FilesChange) (script : SourceChange) (out err : SinkChange) (line : List ℕ) (answer : Status) → IfSome files.told (λ known. painting_told words.painting known ≡ Ok painted) → files.told_after ≡ files.told → IfKnown files.told (λ known. IfSome script.before (λ bytes. AppendsPrefix out.before out.after (script_answer words known painted bytes).text)) → IsPainted painted → TakesFew script → IfKnown files.told (λ known. EndsSo (library_of words painted.budget known) (edit_start words painted) script out (end.Unfetched line)) → HasCause script out files (end.Unfetched line) → WroteAll err.before err.after err.faults err.faults_after line ReadFault answer → Runs (Some (Edit words)) files script out err answer
unfetched_runs words painted files script out err line answer told kept part sound few ends causes all = record {
  session = told_known files.told script.before (λ known. painting_told words.painting known ≡ Ok painted) _ (λ known bytes at is told' r t o e m. absurd (r causes.2)) told;
  out_part = told_known files.told script.before (λ known. painting_told words.painting known ≡ Ok painted) _ (λ known bytes at is told'. part_is words painted known bytes script out is told' (part known at)) told;
  err_part = told_known files.told script.before (λ known. painting_told words.painting known ≡ Ok painted) _ (λ known bytes at is told' r t. absurd (r causes.2)) told;
  err_part_or_unread = told_known files.told script.before (λ known. painting_told words.painting known ≡ Ok painted) _ (λ known bytes at is told'. inr (record { line = line; unread = inr (inr (named_unread words painted known bytes script line is told' (ends known at))); part = part_of err line ReadFault answer (inl all) })) told;
  faulty = λ w. absurd (cc w);
  faulty_told = λ w. absurd (cc w);
  usage = λ is. absurd (cc (is, all.status));
  refused = λ is. absurd (cc (is, all.status));
  read_fault = λ is. inl causes.2;
  read_fault_line = λ is. inr (inr (record { line = line; told = all.whole; unreadable = causes.2 }));
  read_fault_told = λ fault. told_known files.told script.before (λ known. painting_told words.painting known ≡ Ok painted) _ (λ known bytes at is told'. inr (record { line = line; unread = inr (inr (named_unread words painted known bytes script line is told' (ends known at))); whole = all.whole })) told;
  write_fault = λ is. absurd (cc (is, all.status));
  stopped = λ is rose. inr (record { line = line; told = all.whole; unreadable = causes.2 });
  files_unfailed = λ sound. absurd (cc (sound, ap is_unfailed all.status));
  script_unfailed = λ sound. causes.0;
  out_unfailed = λ other. causes.1;
  err_unfailed = λ other. all.unfailed;
  done_misses = λ is. absurd (cc (is, all.status));
  done_longs = λ is. absurd (cc (is, all.status));
  files_kept = kept;
  files_left = tt;
  script_left = unrefused words painted files.told script told;
  script_taken = few;
  script_ended = λ is. absurd (cc (is, all.status));
}

unfetched_cut_runs : (words : PageWords) (painted : PaintedText) (files : FilesChange) (script : SourceChange) (out err : SinkChange) (line : List ℕ) (answer : Status) → IfSome files.told (λ known. painting_told words.painting known ≡ Ok painted) → files.told_after ≡ files.told → IfKnown files.told (λ known. IfSome script.before (λ bytes. AppendsPrefix out.before out.after (script_answer words known painted bytes).text)) → IsPainted painted → TakesFew script → IfKnown files.told (λ known. EndsSo (library_of words painted.budget known) (edit_start words painted) script out (end.Unfetched line)) → HasCause script out files (end.Unfetched line) → WroteSome err.before err.after err.faults err.faults_after line answer → Runs (Some (Edit words)) files script out err answer
unfetched_cut_runs words painted files script out err line answer told kept part sound few ends causes some = record {
  session = told_known files.told script.before (λ known. painting_told words.painting known ≡ Ok painted) _ (λ known bytes at is told' r t o e m. absurd (r causes.2)) told;
  out_part = told_known files.told script.before (λ known. painting_told words.painting known ≡ Ok painted) _ (λ known bytes at is told'. part_is words painted known bytes script out is told' (part known at)) told;
  err_part = told_known files.told script.before (λ known. painting_told words.painting known ≡ Ok painted) _ (λ known bytes at is told' r t. absurd (r causes.2)) told;
  err_part_or_unread = told_known files.told script.before (λ known. painting_told words.painting known ≡ Ok painted) _ (λ known bytes at is told'. inr (record { line = line; unread = inr (inr (named_unread words painted known bytes script line is told' (ends known at))); part = part_of err line ReadFault answer (inr some) })) told;
  faulty = λ w. absurd (cc w);
  faulty_told = λ w. absurd (cc w);
  usage = λ is. absurd (cc (is, some.status));
  refused = λ is. absurd (cc (is, some.status));
  read_fault = λ is. absurd (cc (is, some.status));
  read_fault_line = λ is. absurd (cc (is, some.status));
  read_fault_told = λ is. absurd (cc (is, some.status));
  write_fault = λ is. inr some.failed;
  stopped = λ is rose. absurd (cc (is, some.status));
  files_unfailed = λ sound. absurd (cc (sound, ap is_unfailed some.status));
  script_unfailed = λ sound. causes.0;
  out_unfailed = λ other. causes.1;
  err_unfailed = λ other. absurd (other some.status);
  done_misses = λ is. absurd (cc (is, some.status));
  done_longs = λ is. absurd (cc (is, some.status));
  files_kept = kept;
  files_left = tt;
  script_left = unrefused words painted files.told script told;
  script_taken = few;
  script_ended = λ is. absurd (cc (is, some.status));
}

unwritten_runs : (words : PageWords) (painted : PaintedText) (files : FilesChange) (script : SourceChange) (out err : SinkChange) (answer : Status) → IfSome files.told (λ known. painting_told words.painting known ≡ Ok painted) → files.told_after ≡ files.told → IfKnown files.told (λ known. IfSome script.before (λ bytes. AppendsPrefix out.before out.after (script_answer words known painted bytes).text)) → IsPainted painted → TakesFew script → IfKnown files.told (λ known. EndsSo (library_of words painted.budget known) (edit_start words painted) script out end.Unwritten) → HasCause script out files end.Unwritten → IsUntouched err → answer ≡ WriteFault → Runs (Some (Edit words)) files script out err answer
unwritten_runs words painted files script out err answer told kept part sound few ends causes same done = record {
  session = told_known files.told script.before (λ known. painting_told words.painting known ≡ Ok painted) _ (λ known bytes at is told' r t o e m. absurd (o causes.1)) told;
  out_part = told_known files.told script.before (λ known. painting_told words.painting known ≡ Ok painted) _ (λ known bytes at is told'. part_is words painted known bytes script out is told' (part known at)) told;
  err_part = told_known files.told script.before (λ known. painting_told words.painting known ≡ Ok painted) _ (λ known bytes at is told' r t. none_of err (edit_session words known bytes).err same) told;
  err_part_or_unread = told_known files.told script.before (λ known. painting_told words.painting known ≡ Ok painted) _ (λ known bytes at is told'. inl (none_of err (edit_session words known bytes).err same)) told;
  faulty = λ w. absurd (cc w);
  faulty_told = λ w. absurd (cc w);
  usage = λ is. absurd (cc (is, done));
  refused = λ is. absurd (cc (is, done));
  read_fault = λ is. absurd (cc (is, done));
  read_fault_line = λ is. absurd (cc (is, done));
  read_fault_told = λ is. absurd (cc (is, done));
  write_fault = λ is. inl causes.1;
  stopped = λ is rose. absurd (cc (is, done));
  files_unfailed = λ sound. absurd (cc (sound, ap is_unfailed done));
  script_unfailed = λ sound. causes.0;
  out_unfailed = λ other. absurd (other done);
  err_unfailed = λ other. same.1;
  done_misses = λ is. absurd (cc (is, done));
  done_longs = λ is. absurd (cc (is, done));
  files_kept = kept;
  files_left = tt;
  script_left = unrefused words painted files.told script told;
  script_taken = few;
  script_ended = λ is. absurd (cc (is, done));
}

memory_runs : (words : PageWords) (painted : PaintedText) (files : FilesChange) (script : SourceChange) (out err : SinkChange) (answer : Status) → IfSome files.told (λ known. painting_told words.painting known ≡ Ok painted) → files.told_after ≡ files.told → IfKnown files.told (λ known. IfSome script.before (λ bytes. AppendsPrefix out.before out.after (script_answer words known painted bytes).text)) → IsPainted painted → TakesFew script → IfKnown files.told (λ known. EndsSo (library_of words painted.budget known) (edit_start words painted) script out end.Memory) → HasCause script out files end.Memory → IsUntouched err → answer ≡ Memory → Runs (Some (Edit words)) files script out err answer
memory_runs words painted files script out err answer told kept part sound few ends causes same done = record {
  session = told_known files.told script.before (λ known. painting_told words.painting known ≡ Ok painted) _ (λ known bytes at is told' r t o e m. absurd (m done)) told;
  out_part = told_known files.told script.before (λ known. painting_told words.painting known ≡ Ok painted) _ (λ known bytes at is told'. part_is words painted known bytes script out is told' (part known at)) told;
  err_part = told_known files.told script.before (λ known. painting_told words.painting known ≡ Ok painted) _ (λ known bytes at is told' r t. none_of err (edit_session words known bytes).err same) told;
  err_part_or_unread = told_known files.told script.before (λ known. painting_told words.painting known ≡ Ok painted) _ (λ known bytes at is told'. inl (none_of err (edit_session words known bytes).err same)) told;
  faulty = λ w. absurd (cc w);
  faulty_told = λ w. absurd (cc w);
  usage = λ is. absurd (cc (is, done));
  refused = λ is. absurd (cc (is, done));
  read_fault = λ is. absurd (cc (is, done));
  read_fault_line = λ is. absurd (cc (is, done));
  read_fault_told = λ is. absurd (cc (is, done));
  write_fault = λ is. absurd (cc (is, done));
  stopped = λ is rose. absurd (cc (is, done));
  files_unfailed = λ sound. absurd (cc (sound, ap is_unfailed done));
  script_unfailed = λ sound. causes.0;
  out_unfailed = λ other. causes.1;
  err_unfailed = λ other. same.1;
  done_misses = λ is. absurd (cc (is, done));
  done_longs = λ is. absurd (cc (is, done));
  files_kept = kept;
  files_left = tt;
  script_left = unrefused words painted files.told script told;
  script_taken = few;
  script_ended = λ is. absurd (cc (is, done));
}

-- whichever way it ended
by_end : (e : End) (words : PageWords) (painted : PaintedText) (files : FilesChange) (script : SourceChange) (out err : SinkChange) (answer : Status) → IfSome files.told (λ known. painting_told words.painting known ≡ Ok painted) → files.told_after ≡ files.told → IfKnown files.told (λ known. IfSome script.before (λ bytes. AppendsPrefix out.before out.after (script_answer words known painted bytes).text)) → IsPainted painted → TakesFew script → IfKnown files.told (λ known. EndsSo (library_of words painted.budget known) (edit_start words painted) script out e) → HasCause script out files e → Closes e err answer → Runs (Some (Edit words)) files script out err answer
by_end end.Done words painted files script out err answer told kept part sound few ends causes closes = done_runs words painted files script out err answer told kept part sound few ends causes closes.0 closes.1
by_end end.Refused words painted files script out err answer told kept part sound few ends causes closes = refused_runs words painted files script out err answer told kept part sound few ends causes closes.0 closes.1
by_end end.Unwritten words painted files script out err answer told kept part sound few ends causes closes = unwritten_runs words painted files script out err answer told kept part sound few ends causes closes.0 closes.1
by_end end.Memory words painted files script out err answer told kept part sound few ends causes closes = memory_runs words painted files script out err answer told kept part sound few ends causes closes.0 closes.1
by_end end.TooLong words painted files script out err answer told kept part sound few ends causes (inl all) = over_runs words painted files script out err answer told kept part sound few ends causes all
by_end end.TooLong words painted files script out err answer told kept part sound few ends causes (inr some) = over_cut_runs words painted files script out err answer told kept part sound few ends causes some
by_end end.Unread words painted files script out err answer told kept part sound few ends causes (inl all) = unread_runs words painted files script out err answer told kept part sound few ends causes all
by_end end.Unread words painted files script out err answer told kept part sound few ends causes (inr some) = unread_cut_runs words painted files script out err answer told kept part sound few ends causes some
by_end (end.Unfetched line) words painted files script out err answer told kept part sound few ends causes (inl all) = unfetched_runs words painted files script out err line answer told kept part sound few ends causes all
by_end (end.Unfetched line) words painted files script out err answer told kept part sound few ends causes (inr some) = unfetched_cut_runs words painted files script out err line answer told kept part sound few ends causes some

-- a script that was carried out after files that were all read
pub edited_runs : (words : PageWords) (painted : PaintedText) (t u v : Option FileMap) (f f' f'' m m' m'' l l' l'' : ℕ) (script : SourceChange) (out err : SinkChange) (answer : Status) → IfSome t (λ known. painting_told words.painting known ≡ Ok painted) → u ≡ t → f' ≡ f → m' ≡ m → l' ≡ l → EditsPainted words painted (files_change u v f' f'' m' m'' l' l'') script out err answer → Runs (Some (Edit words)) (files_change t v f f'' m m'' l l'') script out err answer
edited_runs words painted t u v f f' f'' m m' m'' l l' l'' script out err answer told kept faults misses longs given =
    let T : Option FileMap → Type 0 = λ o. EditsPainted words painted (files_change o v f f'' m m'' l l'') script out err answer in
    let F : ℕ → Type 0 = λ n. EditsPainted words painted (files_change u v n f'' m m'' l l'') script out err answer in
    let M : ℕ → Type 0 = λ n. EditsPainted words painted (files_change u v f' f'' n m'' l l'') script out err answer in
    let L : ℕ → Type 0 = λ n. EditsPainted words painted (files_change u v f' f'' m' m'' n l'') script out err answer in
    let e : EditsPainted words painted (files_change t v f f'' m m'' l l'') script out err answer = subst T kept (subst F faults (subst M misses (subst L longs given))) in
    by_end e.end words painted (files_change t v f f'' m m'' l l'') script out err answer told e.kept e.part e.is_painted e.taken e.ends e.causes e.closes

-- ---- before there is a painted text

planned_in : (words : PageWords) (known : FileMap) (bytes : List ℕ) (why : Stop) → IsExpected (painting_told words.painting known) (IsUnreadPaint words.painting known) (Err why) → Plans (edit_session words known bytes) (IsUnreadLine (Edit words) known bytes) (Err why)
planned_in words known bytes stop.Memory is = tt
planned_in words known bytes (stop.Fault fault) is =
    led fault.cause (IsUnreadPaint words.painting known fault.line) (painting_told words.painting known ≡ Err fault) (IsUnreadLine (Edit words) known bytes fault.line) (edit_session words known bytes ≡ ends fault)
    (λ u. inl u) (λ at. ap (edit_told words known bytes) at) is

edit_planned_in : (words : PageWords) (told : Option FileMap) (script : Option (List ℕ)) (why : Stop) → FollowsFiles told (painting_told words.painting) (IsUnreadPaint words.painting) (Err why) → IfTold told script (λ known bytes. Plans (edit_session words known bytes) (IsUnreadLine (Edit words) known bytes) (Err why))
edit_planned_in words None script why is = tt
edit_planned_in words (Some known) None why is = tt
edit_planned_in words (Some known) (Some bytes) why is = planned_in words known bytes why is

-- the painting stopped
pub edit_planned : (words : PageWords) (asked : PaintWords) (told : Option FileMap) (script : Option (List ℕ)) (why : Stop) → asked ≡ words.painting → FollowsFiles told (painting_told asked) (IsUnreadPaint asked) (Err why) → IfTold told script (λ known bytes. Plans (edit_session words known bytes) (IsUnreadLine (Edit words) known bytes) (Err why))
edit_planned words asked told script why same is =
    let P : PaintWords → Type 0 = λ a. FollowsFiles told (painting_told a) (IsUnreadPaint a) (Err why) in
    edit_planned_in words told script why (subst P same is)

-- the painting is there
pub edit_painted_told : (words : PageWords) (asked : PaintWords) (told : Option FileMap) (painted : PaintedText) → asked ≡ words.painting → FollowsFiles told (painting_told asked) (IsUnreadPaint asked) (Ok painted) → IfSome told (λ known. painting_told words.painting known ≡ Ok painted)
edit_painted_told words asked told painted same is =
    let P : PaintWords → Type 0 = λ a. FollowsFiles told (painting_told a) (IsUnreadPaint a) (Ok painted) in
    by_told told (subst P same is)
  where
    by_told : (o : Option FileMap) → FollowsFiles o (painting_told words.painting) (IsUnreadPaint words.painting) (Ok painted) → IfSome o (λ known. painting_told words.painting known ≡ Ok painted)
    by_told None h = tt
    by_told (Some known) h = h

pub edit_fault : (words : PageWords) (asked : PaintWords) (why : Stop) → asked ≡ words.painting → IfFault {A = PaintedText} (Err why) (IsPaintFault asked) → IfFault {A = List ℕ} (Err why) (IsFaultOfAsked (Edit words))
edit_fault words asked stop.Memory same is = tt
edit_fault words asked (stop.Fault fault) same is = let P : PaintWords → Type 0 = λ a. IsPaintFault a fault in subst P same is

pub raises_again : (A B : Type 0) (test : FaultKind → Bool) (why : Stop) (before now : ℕ) → RaisesItsCount {A = A} test (Err why) before now → RaisesItsCount {A = B} test (Err why) before now
raises_again A B test stop.Memory before now counted = counted
raises_again A B test (stop.Fault fault) before now counted = counted

-- a delivered stop isn't the end of a script
pub stop_undone : (why : Stop) (out err : SinkChange) (answer : Status) → Delivers (Err why) out err answer → answer ≢ Done
stop_undone stop.Memory out err answer delivered is = absurd (cc (is, delivered.2))
stop_undone (stop.Fault fault) out err answer (same, inl all) is = not_done fault.cause (sym all.status ∙ is)
stop_undone (stop.Fault fault) out err answer (same, inr some) is = absurd (cc (is, some.status))

pub some_told : (told : Option FileMap) (script : Option (List ℕ)) (P : FileMap → Type 0) → IfSome told P → IfTold told script (λ known bytes. P known)
some_told None script P is = tt
some_told (Some known) None P is = tt
some_told (Some known) (Some bytes) P is = is

-- ---- steps

both_counts : (before between after lines own all : ℕ) → between ≤ before + lines → after ≤ between + own → all ≡ own → after ≤ before + (lines + all)
both_counts before between after lines own all first then same = omega arith

one_count : (before after lines more : ℕ) → after ≤ before + lines → after ≤ before + (lines + more)
one_count before after lines more first = omega arith

-- the first painting and those of the script together
pub edited_count : (words : PageWords) (asked : PaintWords) (told : Option FileMap) (script : Option (List ℕ)) (painted : PaintedText) (before between after : ℕ) → asked ≡ words.painting → IfSome told (λ known. painting_told words.painting known ≡ Ok painted) → IfSome told (λ known. between ≤ before + lines_in (text_told asked.text known)) → IfKnown told (λ known. IfSome script (λ bytes. after ≤ between + script_lines words known painted bytes)) → IfTold told script (λ known bytes. after ≤ before + edit_lines words known bytes)
edited_count words asked None script painted before between after same is first then = tt
edited_count words asked (Some known) None painted before between after same is first then = tt
edited_count words asked (Some known) (Some bytes) painted before between after same is first then =
    let P : PaintWords → Type 0 = λ a. between ≤ before + lines_in (text_told a.text known) in
    both_counts before between after (lines_in (text_told (words.painting).text known)) (script_lines words known painted bytes) (told_lines words known bytes (painting_told words.painting known)) (subst P same first) (then known refl) (ap (told_lines words known bytes) is)

-- the first painting alone
pub unedited_count : (words : PageWords) (asked : PaintWords) (told : Option FileMap) (script : Option (List ℕ)) (before after : ℕ) → asked ≡ words.painting → IfSome told (λ known. after ≤ before + lines_in (text_told asked.text known)) → IfTold told script (λ known bytes. after ≤ before + edit_lines words known bytes)
unedited_count words asked None script before after same first = tt
unedited_count words asked (Some known) None before after same first = tt
unedited_count words asked (Some known) (Some bytes) before after same first =
    let P : PaintWords → Type 0 = λ a. after ≤ before + lines_in (text_told a.text known) in
    one_count before after (lines_in (text_told (words.painting).text known)) (told_lines words known bytes (painting_told words.painting known)) (subst P same first)
