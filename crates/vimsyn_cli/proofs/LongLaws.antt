-- Files that are too long, which the script of a session names, and their count.
use Rattle.std.proofs.Common.{◌≡◌, ℕ, true, false, List, refl, subst, sym, ◌∙◌, inl, inr}
use Rattle.std.specs.Prelude.{Option, Some, None, Ok, Err, IfSome}
use Rattle.edit_session.specs.declared.reading.End.{End}
use Rattle.edit_session.specs.declared.reading.End.TheVariants as end
use Rattle.edit_session.specs.Ends.{CountsLongs, IfKnown, LongsRise, SinkChange}
use Rattle.edit_session.specs.Painter.{Library}
use Rattle.edit_session.specs.Session.{Standing}
use Rattle.program_words.specs.declared.words.Asked.TheVariants.{Edit}
use Rattle.program_words.specs.Given.{PageWords, PaintWords}
use Rattle.state_cache.specs.PaintedText.{PaintedText}
use Rattle.syn_base.specs.Causes.{Rose}
use Rattle.syn_base.specs.Outside.{FileMap}
use Rattle.vimsyn_cli.specs.declared.fault.FaultKind.{FaultKind}
use Rattle.vimsyn_cli.specs.declared.fault.FaultKind.TheVariants.{Missing, Unread, TooLong, Content}
use Rattle.vimsyn_cli.specs.declared.fault.Stop.{Stop}
use Rattle.vimsyn_cli.specs.declared.fault.Stop.TheVariants as stop
use Rattle.vimsyn_cli.specs.declared.status.Status.{Status}
use Rattle.vimsyn_cli.specs.declared.status.Status.TheVariants.{Refused}
use Rattle.vimsyn_cli.specs.Answers.{Closes, Delivers}
use Rattle.vimsyn_cli.specs.Changes.{FilesChange, files_change}
use Rattle.vimsyn_cli.specs.EditRun.{edit_start, script_answer}
use Rattle.vimsyn_cli.specs.Painting.{IsUnreadPaint, painting_told}
use Rattle.vimsyn_cli.specs.Plans.{FollowsFiles, IsExpected, is_unread}
use Rattle.vimsyn_cli.specs.Renewal.{library_of}
use Rattle.vimsyn_cli.specs.Report.{cause_status}
use Rattle.vimsyn_cli.specs.Runs.{CountsNamed, IfTold}
use Rattle.vimsyn_cli.proofs.RunLaws.{decided, told_known}

-- a script that ended with a refusal
pub named_counted : (e : End) (library : Library) (s : Standing) (script : Option (List ℕ)) (files : FilesChange) (err : SinkChange) (answer : Status) → CountsLongs library s script files e → Closes e err answer → answer ≡ Refused → LongsRise library s script files
named_counted end.Done library s script files err answer counts closes is = absurd (cc (is, closes.1))
named_counted end.Refused library s script files err answer counts closes is = counts
named_counted end.TooLong library s script files err answer counts closes is = counts
named_counted end.Unread library s script files err answer counts (inl all) is = absurd (cc (is, all.status))
named_counted end.Unread library s script files err answer counts (inr some) is = absurd (cc (is, some.status))
named_counted (end.Unfetched line) library s script files err answer counts (inl all) is = absurd (cc (is, all.status))
named_counted (end.Unfetched line) library s script files err answer counts (inr some) is = absurd (cc (is, some.status))
named_counted end.Unwritten library s script files err answer counts closes is = absurd (cc (is, closes.1))
named_counted end.Memory library s script files err answer counts closes is = absurd (cc (is, closes.1))

-- behind files that were all read for the first painting
pub edited_counted : (words : PageWords) (painted : PaintedText) (t u v : Option FileMap) (f f' f'' m m' m'' l l' l'' : ℕ) (script : Option (List ℕ)) → IfSome t (λ known. painting_told words.painting known ≡ Ok painted) → u ≡ t → l' ≡ l → IfKnown u (λ known. LongsRise (library_of words painted.budget known) (edit_start words painted) script (files_change u v f' f'' m' m'' l' l'')) → IfTold t script (λ known bytes. CountsNamed (Some (Edit words)) known bytes (files_change t v f f'' m m'' l l''))
edited_counted words painted t u v f f' f'' m m' m'' l l' l'' script told kept longs rise =
    told_known t script (λ known. painting_told words.painting known ≡ Ok painted) (λ known bytes. CountsNamed (Some (Edit words)) known bytes (files_change t v f f'' m m'' l l'')) (λ known bytes at is read. λ other same met.
    let S : Option (List ℕ) → Type 0 = λ o. LongsRise (library_of words painted.budget known) (edit_start words painted) o (files_change u v f' f'' m' m'' l' l'') in
    let own : other ≡ painted = cc (is, same) in
    let M : PaintedText → Type 0 = λ p. (script_answer words known p bytes).stands.met_long ≡ true in
    let R : ℕ → Type 0 = λ n. Rose n l'' in
    let rose : M painted → Rose l' l'' = subst S read (rise known (kept ∙ at)) in
    subst R longs (rose (subst M own met))) told

-- where there is no painted text, no command is carried out
refused_read : (cause : FaultKind) → cause_status cause ≡ Refused → is_unread cause ≡ false
refused_read Missing is = absurd cc
refused_read Unread is = absurd cc
refused_read TooLong is = refl
refused_read Content is = refl

pub fault_counted : (words : PageWords) (asked : PaintWords) (told : Option FileMap) (script : Option (List ℕ)) (why : Stop) (files : FilesChange) (out err : SinkChange) (answer : Status) → asked ≡ words.painting → FollowsFiles told (painting_told asked) (IsUnreadPaint asked) (Err why) → Delivers (Err why) out err answer → answer ≡ Refused → IfTold told script (λ known bytes. CountsNamed (Some (Edit words)) known bytes files)
fault_counted words asked told script stop.Memory files out err answer same follows delivered is = absurd (cc (is, delivered.2))
fault_counted words asked told script (stop.Fault fault) files out err answer same follows (untouched, inr some) is = absurd (cc (is, some.status))
fault_counted words asked told script (stop.Fault fault) files out err answer same follows (untouched, inl all) is =
    let P : PaintWords → Type 0 = λ a. FollowsFiles told (painting_told a) (IsUnreadPaint a) (Err (stop.Fault fault)) in
    let read : is_unread fault.cause ≡ false = refused_read fault.cause (sym all.status ∙ is) in
    told_known told script (λ known. IsExpected (painting_told words.painting known) (IsUnreadPaint words.painting known) (Err (stop.Fault fault))) (λ known bytes. CountsNamed (Some (Edit words)) known bytes files) (λ known bytes at expected given. λ painted accepted met.
    absurd (cc (accepted, decided fault.cause (IsUnreadPaint words.painting known fault.line) (painting_told words.painting known ≡ Err fault) expected read))) (subst P same follows)
