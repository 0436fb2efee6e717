-- The large mode: its first painting, and what its run comes to.
use Rattle.std.proofs.Common.{◌≡◌, ◌≢◌, ℕ, ◌≤◌, ◌+◌, Bool, true, false, List, [], length, refl, ap, subst, sym, ◌∙◌, inl, inr, arith}
use Rattle.std.specs.Prelude.{◌⊎◌, codes, Some, IfSome, Result, Ok, Err}
use Rattle.edit_session.specs.Ends.{SinkChange, SourceChange}
use Rattle.large_session.specs.declared.session.Outcome.{Outcome}
use Rattle.large_session.specs.Laws.{ArePainted}
use Rattle.large_session.proofs.CountLaws.{all_carried_out}
use Rattle.large_session.specs.LargeSession.{edit_count, five_lines, has_refused, large_text, number_behind, start}
use Rattle.large_session.proofs.TextLaws.{text_bytes_few, text_count, text_read_back}
use Rattle.program_words.specs.declared.words.Asked.TheVariants.{Large}
use Rattle.program_words.specs.Given.{LargeWords, PageWords, PaintWords}
use Rattle.program_words.specs.Words.{asked_of, large_page}
use Rattle.state_cache.specs.declared.refusal.EditError.{EditError}
use Rattle.state_cache.specs.PaintedText.{PaintedText}
use Rattle.paint_rules.specs.Line.{Painting, Whole, Fails, painting}
use Rattle.paint_rules.specs.Rules.{Cause, TooCostly, TooDeep}
use Rattle.state_cache.specs.declared.refusal.EditError.TheVariants.{Memory as OutOfMemory}
use Rattle.state_cache.specs.Spans.{refused_at, spans_told, syntax_rules, text_spans}
use Rattle.syn_base.specs.declared.places.Span.{Span}
use Rattle.syn_base.specs.Causes.{Counted}
use Rattle.syn_base.specs.Outside.{AppendsPrefix, FileMap, appended}
use Rattle.syn_reader.specs.declared.syntax.Syntax.{Syntax}
use Rattle.text_buffer.specs.BytesOfText.{bytes_of}
use Rattle.vimsyn_cli.specs.declared.fault.Fault.{Fault as FaultOf}
use Rattle.vimsyn_cli.specs.declared.fault.FaultKind.{FaultKind}
use Rattle.vimsyn_cli.specs.declared.fault.FaultKind.TheVariants as cause
use Rattle.vimsyn_cli.specs.declared.fault.Stop.{Stop}
use Rattle.vimsyn_cli.specs.declared.fault.Stop.TheVariants as stop
use Rattle.vimsyn_cli.specs.declared.status.Status.{Status}
use Rattle.vimsyn_cli.specs.declared.status.Status.TheVariants.{Done, Refused, Usage, ReadFault, WriteFault, Memory}
use Rattle.vimsyn_cli.specs.Answers.{Delivers, GivesSession, IsUntaken, IsUntouched, TellsFault, Writes}
use Rattle.vimsyn_cli.specs.Changes.{FilesChange}
use Rattle.vimsyn_cli.specs.Editing.{script_status, shown_of}
use Rattle.vimsyn_cli.specs.Large.{RefusesEdit, large_files, large_painter, large_painting, large_run, large_standing, large_told}
use Rattle.vimsyn_cli.specs.LargeRun.{DeliversLarge, IsLarge, IsOutcome, RunsLarge, TellsRefusal}
use Rattle.vimsyn_cli.specs.Painting.{IsRefusedPainting, IsUnreadPaint, lines_told, painted_told, painting_told, text_limit, text_told, with_spans}
use Rattle.vimsyn_cli.specs.Plans.{FollowsFiles, IsExpected, OrUnread, RaisesItsCount, and_then, is_unread}
use Rattle.vimsyn_cli.specs.Reading.{with_told}
use Rattle.vimsyn_cli.specs.Report.{cause_status}
use Rattle.vimsyn_cli.specs.Runs.{Runs}
use Rattle.vimsyn_cli.specs.Laws.{IsLargePainted}
use Rattle.vimsyn_cli.specs.Session.{lines_in, session, with_asked}
use Rattle.vimsyn_cli.specs.Written.{Session, ends, shows}
use Rattle.vimsyn_cli.proofs.KeptLaws.{kept_syntax}
use Rattle.vimsyn_cli.proofs.RunLaws.{all_of, none_of, part_of, sink_failed, takes_few_none, told_all, unfailed_of, untouched, written_other}
use Rattle.vimsyn_cli.proofs.SessionLaws.{file_is, told_by, with_lines}

-- ---- the first painting

decided_kept : (why : FaultKind) (unread planned : Type 0) → OrUnread why unread planned → Counted (is_unread why) 0 0 → OrUnread why ⊥ planned
decided_kept cause.Missing unread planned is counted = is
decided_kept cause.Unread unread planned is counted = let rose : 1 ≤ 0 = counted.1 in absurd (omega arith)
decided_kept cause.TooLong unread planned is counted = is
decided_kept cause.Content unread planned is counted = is

-- no read of a kept file fails
pub kept_expected : (e : Result PaintedText FaultOf) (U : List ℕ → Type 0) (result : Result PaintedText Stop) → IsExpected e U result → RaisesItsCount is_unread result 0 0 → IsExpected e (λ line. ⊥) result
kept_expected e U (Ok painted) is counted = is
kept_expected e U (Err stop.Memory) is counted = tt
kept_expected e U (Err (stop.Fault fault)) is counted = decided_kept fault.cause (U fault.line) (e ≡ Err fault) is counted

-- the text is the generated one
pub text_kept : (words : LargeWords) → 1 ≤ words.lines → words.lines ≤ 100000 → text_told (codes "large") (large_files words) ≡ Ok (large_text words.seed words.lines)
text_kept words some few =
    let text = large_text words.seed words.lines in
    let read = file_is (large_files words) (codes "large") (bytes_of text) text_limit refl (text_bytes_few words.seed words.lines few) in
    ap (λ (e : Result (List ℕ) FaultOf). and_then e (lines_told (codes "large"))) (ap (told_by (codes "large")) read)
    ∙ ap (with_lines (codes "large")) (text_read_back words.seed words.lines some few)

-- it is painted by the kept syntax
pub painting_kept : (words : LargeWords) → 1 ≤ words.lines → words.lines ≤ 100000 → large_painting words ≡ painted_told (large_page words).painting (kept_syntax words).0 (large_text words.seed words.lines)
unfolding large_painting
painting_kept words some few =
    let more : Syntax → Result PaintedText FaultOf = λ syntax. and_then (text_told (codes "large") (large_files words)) (painted_told (large_page words).painting syntax) in
    ap (λ (e : Result Syntax FaultOf). and_then e more) (kept_syntax words).1
    ∙ ap (λ (e : Result (List (List ℕ)) FaultOf). and_then e (painted_told (large_page words).painting (kept_syntax words).0)) (text_kept words some few)

text_in : (words : LargeWords) (syntax : Syntax) (lines : List (List ℕ)) (painted : PaintedText) (spans : Result (List (List Span)) EditError) → with_spans (large_page words).painting syntax lines spans ≡ Ok painted → painted.text ≡ lines
text_in words syntax lines painted (Ok spans) is =
    let same : record { syntax = syntax; text = lines; budget = words.budget; spans = spans } ≡ painted = cc in
    sym (ap (λ (p : PaintedText). p.text) same)
text_in words syntax lines painted (Err error) is = absurd cc

pub painted_text : (words : LargeWords) (painted : PaintedText) → 1 ≤ words.lines → words.lines ≤ 100000 → large_painting words ≡ Ok painted → painted.text ≡ large_text words.seed words.lines
painted_text words painted some few is =
    let syntax = (kept_syntax words).0 in
    let text = large_text words.seed words.lines in
    text_in words syntax text painted (text_spans syntax words.budget text) (sym (painting_kept words some few) ∙ is)

pub painted_few : (words : LargeWords) (painted : PaintedText) → 1 ≤ words.lines → words.lines ≤ 100000 → large_painting words ≡ Ok painted → length painted.text ≤ 100000
painted_few words painted some few is =
    let count : length painted.text ≡ words.lines = ap length (painted_text words painted some few is) ∙ text_count words.seed words.lines in
    omega arith

-- the rules of painting know no want of memory
refused_by : (l col : ℕ) (why : Cause) (error : EditError) → refused_at l (record { col = col; cause = why }) ≡ error → error ≢ OutOfMemory
refused_by l col (TooCostly i) error is at = absurd (cc (is, at))
refused_by l col TooDeep error is at = absurd (cc (is, at))

refusal_known : (p : Painting) (error : EditError) → spans_told p ≡ Err error → error ≢ OutOfMemory
refusal_known (Whole notes) error is = absurd cc
refusal_known (Fails l refusal) error is = refused_by l refusal.col refusal.cause error (cc is)

refused_in : (words : LargeWords) (syntax : Syntax) (lines : List (List ℕ)) (fault : FaultOf) (spans : Result (List (List Span)) EditError) → ((error : EditError) → spans ≡ Err error → error ≢ OutOfMemory) → with_spans (large_page words).painting syntax lines spans ≡ Err fault → IsRefusedPainting (codes "large") fault
refused_in words syntax lines fault (Ok spans) known is = absurd cc
refused_in words syntax lines fault (Err error) known is = record { syntax = syntax; refusal = error; told = cc; known = known error refl }

-- where there is no painted text, its painting was refused
pub painting_refused : (words : LargeWords) (fault : FaultOf) → 1 ≤ words.lines → words.lines ≤ 100000 → large_painting words ≡ Err fault → IsRefusedPainting (codes "large") fault
painting_refused words fault some few is =
    let syntax = (kept_syntax words).0 in
    let text = large_text words.seed words.lines in
    refused_in words syntax text fault (text_spans syntax words.budget text) (λ error. refusal_known (painting (syntax_rules syntax words.budget) text) error) (sym (painting_kept words some few) ∙ is)

refused_cause : (fault : FaultOf) → IsRefusedPainting (codes "large") fault → fault.cause ≡ cause.Content
refused_cause fault is = ap (λ (f : FaultOf). f.cause) is.told

-- ---- what is delivered

either_status : (refused : Bool) (other : Status) → other ≢ Done → other ≢ Refused → script_status refused ≢ other
either_status true other first second is = second (sym is)
either_status false other first second is = first (sym is)

refused_of : (refused : Bool) → script_status refused ≡ Refused → refused ≡ true
refused_of true is = refl
refused_of false is = absurd cc

outcome_runs : (words : LargeWords) (outcome : Outcome) (out err : SinkChange) (answer : Status) → IsOutcome words outcome → DeliversLarge (Ok outcome) out err answer → RunsLarge words out err answer
outcome_runs words outcome out err answer is delivered =
    let told : large_run words ≡ large_told words (Ok is.painted) = ap (large_told words) is.accepted in
    let planned = script_status outcome.refused in
    record {
      session = λ out_sound err_sound enough.
          let all = all_of out outcome.text planned answer delivered.1 out_sound in
          let P : Session → Type 0 = λ s. GivesSession s out.before out.after err.before err.after answer in
          subst P (sym told) (record {
            out = all.whole ∙ ap (λ (l : List ℕ). appended out.before l) is.text;
            err = untouched err delivered.0;
            status = all.status ∙ ap script_status is.refused;
          });
      out_part =
          let P : Session → Type 0 = λ s. AppendsPrefix out.before out.after s.out in
          let Q : List ℕ → Type 0 = λ l. AppendsPrefix out.before out.after l in
          subst P (sym told) (subst Q is.text (part_of out outcome.text planned answer delivered.1));
      err_part = none_of err (large_run words).err delivered.0;
      in_table = λ at. written_other out outcome.text planned answer Usage delivered.1 at (either_status outcome.refused Usage (λ w. absurd cc) (λ w. absurd cc)) (λ w. absurd cc);
      readable = λ at. written_other out outcome.text planned answer ReadFault delivered.1 at (either_status outcome.refused ReadFault (λ w. absurd cc) (λ w. absurd cc)) (λ w. absurd cc);
      refused = λ at. inr (refuses delivered.1 at, delivered.0.0);
      write_fault = λ at. inl (sink_failed out outcome.text planned answer delivered.1 at (either_status outcome.refused WriteFault (λ w. absurd cc) (λ w. absurd cc)));
      out_unfailed = λ other. unfailed_of out outcome.text planned answer delivered.1 other;
      err_unfailed = λ other. delivered.0.1;
    }
  where
    refuses : Writes out outcome.text (script_status outcome.refused) answer → answer ≡ Refused → RefusesEdit words
    refuses (inl all) at =
        let yes = refused_of outcome.refused (sym all.status ∙ at) in
        record { painted = is.painted; accepted = is.accepted; refused = sym is.refused ∙ yes }
    refuses (inr some) at = absurd (cc (at, some.status))

refusal_runs : (words : LargeWords) (fault : FaultOf) (out err : SinkChange) (answer : Status) → large_painting words ≡ Err fault → IsRefusedPainting (codes "large") fault → Delivers (Err (stop.Fault fault)) out err answer → RunsLarge words out err answer
refusal_runs words fault out err answer is refused delivered =
    let told : large_run words ≡ ends fault = ap (large_told words) is in
    let planned = cause_status fault.cause in
    let content : planned ≡ Refused = ap cause_status (refused_cause fault refused) in
    record {
      session = λ out_sound err_sound enough.
          let all = all_of err fault.line planned answer delivered.1 err_sound in
          let P : Session → Type 0 = λ s. GivesSession s out.before out.after err.before err.after answer in
          subst P (sym told) (record { out = untouched out delivered.0; err = all.whole; status = all.status });
      out_part = none_of out (large_run words).out delivered.0;
      err_part =
          let P : Session → Type 0 = λ s. AppendsPrefix err.before err.after s.err in
          subst P (sym told) (part_of err fault.line planned answer delivered.1);
      in_table = λ at. written_other err fault.line planned answer Usage delivered.1 at (λ w. absurd (cc (w, content))) (λ w. absurd cc);
      readable = λ at. written_other err fault.line planned answer ReadFault delivered.1 at (λ w. absurd (cc (w, content))) (λ w. absurd cc);
      refused = λ at. inl (tells delivered.1 at);
      write_fault = λ at. inr (sink_failed err fault.line planned answer delivered.1 at (λ w. absurd (cc (w, content))));
      out_unfailed = λ other. delivered.0.1;
      err_unfailed = λ other. unfailed_of err fault.line planned answer delivered.1 other;
    }
  where
    tells : Writes err fault.line (cause_status fault.cause) answer → answer ≡ Refused → TellsRefusal words err
    tells (inl all) at = record { fault = fault; told = is; refused = refused; line = all.whole }
    tells (inr some) at = absurd (cc (at, some.status))

silent_runs : (words : LargeWords) (out err : SinkChange) (answer : Status) → IsUntouched out → IsUntouched err → answer ≡ Memory → RunsLarge words out err answer
silent_runs words out err answer same same_err is = record {
  session = λ out_sound err_sound enough. absurd (enough is);
  out_part = none_of out (large_run words).out same;
  err_part = none_of err (large_run words).err same_err;
  in_table = λ at. absurd (cc (at, is));
  readable = λ at. absurd (cc (at, is));
  refused = λ at. absurd (cc (at, is));
  write_fault = λ at. absurd (cc (at, is));
  out_unfailed = λ other. same.1;
  err_unfailed = λ other. same_err.1;
}

pub large_delivered : (words : LargeWords) (result : Result Outcome Stop) (out err : SinkChange) (answer : Status) → 1 ≤ words.lines → words.lines ≤ 100000 → IsLarge words result → DeliversLarge result out err answer → RunsLarge words out err answer
large_delivered words (Ok outcome) out err answer some few is delivered = outcome_runs words outcome out err answer is delivered
large_delivered words (Err stop.Memory) out err answer some few is delivered = silent_runs words out err answer delivered.0 delivered.1 delivered.2
large_delivered words (Err (stop.Fault fault)) out err answer some few is delivered =
    refusal_runs words fault out err answer is (painting_refused words fault some few is) delivered

-- ---- as a run among the others

fault_told : (words : LargeWords) (err : SinkChange) (longs longs_after : ℕ) (answer : Status) → TellsRefusal words err → answer ≡ Refused → TellsFault (Large words) err.before err.after longs longs_after answer
fault_told words err longs longs_after answer tells is =
    let content = refused_cause tells.fault tells.refused in
    record {
      fault = tells.fault;
      asked_for = tells.refused;
      line = tells.line;
      status = is ∙ sym (ap cause_status content);
      too_long = λ long. absurd (cc (long, content));
    }

pub large_runs : (words : LargeWords) (files : FilesChange) (script : SourceChange) (out err : SinkChange) (answer : Status) → files.told_after ≡ files.told → files.faults_after ≡ files.faults → files.misses_after ≡ files.misses → files.longs_after ≡ files.longs → script.after ≡ script.before → script.faults_after ≡ script.faults → RunsLarge words out err answer → Runs (Some (Large words)) files script out err answer
large_runs words files script out err answer kept faults misses longs left readable run = record {
  session = told_all files.told (Some []) _ (λ known bytes r t o e m. run.session o e m);
  out_part = told_all files.told (Some []) _ (λ known bytes. run.out_part);
  err_part = told_all files.told (Some []) _ (λ known bytes r t. run.err_part);
  err_part_or_unread = told_all files.told (Some []) _ (λ known bytes. inl run.err_part);
  usage = λ is. absurd (run.in_table is);
  faulty = λ w. absurd (cc w);
  faulty_told = λ w. absurd (cc w);
  refused = λ is. by_cause (run.refused is) is;
  read_fault = λ is. absurd (run.readable is);
  read_fault_line = λ is. absurd (run.readable is);
  read_fault_told = λ is. absurd (run.readable is);
  write_fault = run.write_fault;
  stopped = λ is rose. absurd (run.readable is);
  files_unfailed = λ sound. faults;
  script_unfailed = λ sound. readable;
  out_unfailed = run.out_unfailed;
  err_unfailed = run.err_unfailed;
  done_misses = λ is. misses;
  done_longs = λ is. longs;
  files_kept = kept;
  files_left = record { told = kept; faults = faults; misses = misses; longs = longs };
  script_left = (left, readable);
  script_taken = takes_few_none script left;
  script_ended = λ is. tt;
}
  where
    by_cause : TellsRefusal words err ⊎ (RefusesEdit words × (err.after ≡ err.before)) → answer ≡ Refused → (TellsFault (Large words) err.before err.after files.longs files.longs_after answer × IsUntaken script) ⊎ ((err.after ≡ err.before) × RefusesEdit words)
    by_cause (inl tells) is = inl (fault_told words err files.longs files.longs_after answer tells is, (left, readable))
    by_cause (inr refuses) is = inr (refuses.1, refuses.0)

-- ---- the law of accepted texts

large_is : (words : LargeWords) (painted : PaintedText) → IsLargePainted words painted → large_painting words ≡ Ok painted
unfolding large_painting
large_is words painted is =
    let page = (large_page words).painting in
    let text = large_text words.seed words.lines in
    let more : Syntax → Result PaintedText FaultOf = λ syntax. and_then (text_told (codes "large") (large_files words)) (painted_told page syntax) in
    let P : List (List ℕ) → Type 0 = λ l. text_spans painted.syntax words.budget l ≡ Ok painted.spans in
    let spans = subst P is.text_is is.spans_are in
    ap (λ (e : Result Syntax FaultOf). and_then e more) (ap with_told is.syntax_is)
    ∙ ap (λ (e : Result (List (List ℕ)) FaultOf). and_then e (painted_told page painted.syntax)) (text_kept words is.some is.few)
    ∙ ap (with_spans page painted.syntax text) spans
    ∙ rw (sym is.text_is, sym is.budget_is) refl

pub accepted_large : (typed : List (List ℕ)) (files : FileMap) (script : List ℕ) (words : LargeWords) (painted : PaintedText) → asked_of typed ≡ Some (Large words) → IsLargePainted words painted → session typed files script ≡ large_told words (Ok painted)
accepted_large typed files script words painted asked is =
    ap (with_asked files script) asked ∙ ap (large_told words) (large_is words painted is)

done_told : (words : LargeWords) (painted : PaintedText) → has_refused (large_standing words painted) ≡ false → large_told words (Ok painted) ≡ shows (five_lines (large_standing words painted))
done_told words painted none =
    ap (λ (r : Bool). let s : Session = record { out = five_lines (large_standing words painted); err = []; status = script_status r } in s) none

-- where each painting is accepted, it ends well
pub accepted_large_done : (typed : List (List ℕ)) (files : FileMap) (script : List ℕ) (words : LargeWords) (painted : PaintedText) → asked_of typed ≡ Some (Large words) → IsLargePainted words painted → ArePainted (large_painter words painted) (edit_count words.lines) (start (shown_of painted)) (number_behind words.seed words.lines) → session typed files script ≡ shows (five_lines (large_standing words painted))
accepted_large_done typed files script words painted asked is all =
    let none = all_carried_out (large_painter words painted) (shown_of painted) (edit_count words.lines) (number_behind words.seed words.lines) all in
    accepted_large typed files script words painted asked is ∙ done_told words painted none.1

-- ---- steps

-- the first painting, by the words and files that it was asked by
pub kept_painted : (words : LargeWords) (page : PageWords) (painting : PaintWords) (files : FileMap) (result : Result PaintedText Stop) → painting ≡ page.painting → page ≡ large_page words → files ≡ large_files words → FollowsFiles (Some files) (painting_told painting) (IsUnreadPaint painting) result → RaisesItsCount is_unread result 0 0 → IsExpected (large_painting words) (λ line. ⊥) result
unfolding large_painting
kept_painted words page painting files result own large kept planned counted =
    let same : painting ≡ (large_page words).painting = own ∙ ap (λ (p : PageWords). p.painting) large in
    let P : PaintWords → Type 0 = λ w. IsExpected (painting_told w files) (IsUnreadPaint w files) result in
    let Q : FileMap → Type 0 = λ f. IsExpected (painting_told (large_page words).painting f) (IsUnreadPaint (large_page words).painting f) result in
    kept_expected (large_painting words) (IsUnreadPaint (large_page words).painting (large_files words)) result (subst Q kept (subst P same planned)) counted

-- it paints the lines of the text at most
pub kept_steps : (words : LargeWords) (page : PageWords) (painting : PaintWords) (files : FileMap) (before after : ℕ) → painting ≡ page.painting → page ≡ large_page words → files ≡ large_files words → 1 ≤ words.lines → words.lines ≤ 100000 → IfSome (Some files) (λ known. after ≤ before + lines_in (text_told painting.text known)) → after ≤ before + words.lines
kept_steps words page painting files before after own large kept some few steps =
    let same : painting ≡ (large_page words).painting = own ∙ ap (λ (p : PageWords). p.painting) large in
    let P : PaintWords → Type 0 = λ w. after ≤ before + lines_in (text_told w.text files) in
    let Q : FileMap → Type 0 = λ f. after ≤ before + lines_in (text_told (codes "large") f) in
    let bound : after ≤ before + lines_in (text_told (codes "large") (large_files words)) = subst Q kept (subst P same steps) in
    let count : lines_in (text_told (codes "large") (large_files words)) ≡ words.lines = ap lines_in (text_kept words some few) ∙ text_count words.seed words.lines in
    omega arith
