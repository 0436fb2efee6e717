-- Accepted files are painted, and accepted syntax files are counted.
use Rattle.std.proofs.Common.{◌≡◌, ℕ, Bool, false, List, [], refl, ap, sym, subst, ◌∙◌, ◌≤◌, length}
use Rattle.std.proofs.lemmas.Bool.{le-ltb}
use Rattle.std.specs.Prelude.{Some, Ok, Result, Err, IsOk, nat_eq}
use Rattle.edit_session.specs.Laws.{AreCarriedOut}
use Rattle.edit_session.specs.Session.{Answer, entries_read, is_too_long, most_bytes}
use Rattle.edit_session.proofs.CarriedOutLaws.{none_of_script}
use Rattle.program_words.specs.declared.words.Asked.TheVariants.{Edit, Print}
use Rattle.program_words.specs.declared.words.Printing.TheVariants.{Folds, Html, Spans}
use Rattle.program_words.specs.Given.{FoldWords, PageWords, PaintWords}
use Rattle.program_words.specs.Words.{asked_of}
use Rattle.syn_base.specs.Outside.{FileMap, file_named}
use Rattle.syn_reader.specs.declared.syntax.Syntax.{Syntax}
use Rattle.paint_laws.specs.Accepted.{IsWithinLimits}
use Rattle.paint_laws.proofs.LineCauses.{texts_within_limits_are_accepted}
use Rattle.syn_base.specs.declared.places.Span.{Span}
use Rattle.state_cache.specs.declared.refusal.EditError.{EditError}
use Rattle.state_cache.specs.PaintedText.{PaintedText}
use Rattle.state_cache.specs.Spans.{spans_of, spans_told, syntax_rules, text_spans}
use Rattle.text_buffer.specs.declared.TextError.{TextError}
use Rattle.vimsyn_cli.specs.declared.fault.Fault.{Fault}
use Rattle.vimsyn_cli.specs.declared.file_fault.NamedFault.{NamedFault}
use Rattle.vimsyn_cli.specs.Check.{syntax_counts}
use Rattle.vimsyn_cli.specs.Editing.{painter_of, script_status, shown_of, with_words}
use Rattle.vimsyn_cli.specs.EditRun.{edit_start, edit_told, script_answer, script_end}
use Rattle.vimsyn_cli.specs.Folds.{folds_shown}
use Rattle.vimsyn_cli.specs.Laws.{AcceptedSyntaxFile, IsAccepted}
use Rattle.vimsyn_cli.specs.Painting.{bytes_told, file_bytes, lines_told, painted_told, painting_told, text_limit, text_told, with_spans}
use Rattle.vimsyn_cli.specs.Plans.{and_then}
use Rattle.vimsyn_cli.specs.Printing.{page_bytes, picture_at, picture_bytes, picture_page, picture_told, spans_bytes}
use Rattle.vimsyn_cli.specs.declared.picture.Picture.{Picture}
use Rattle.vimsyn_cli.specs.declared.picture.Picture.TheVariants as picture
use Rattle.vimsyn_cli.specs.Reading.{syntax_told, with_told}
use Rattle.vimsyn_cli.specs.Renewal.{library_of}
use Rattle.vimsyn_cli.specs.Report.{fault_of}
use Rattle.vimsyn_cli.specs.TextFault.{text_fault}
use Rattle.vimsyn_cli.specs.Session.{session, session_told, with_asked}
use Rattle.vimsyn_cli.specs.Written.{Session, shows}

-- the bytes of a file, or its fault
abbrev pub told_by : List ℕ → Result (List ℕ) NamedFault → Result (List ℕ) Fault
told_by name read = elim read [ Ok bytes ↦ Ok bytes | Err fault ↦ Err (fault_of name fault) ]

-- the lines of bytes, or their fault
abbrev pub with_lines : List ℕ → Result (List (List ℕ)) TextError → Result (List (List ℕ)) Fault
with_lines name read = elim read [ Ok lines ↦ Ok lines | Err fault ↦ Err (fault_of name (text_fault fault)) ]

-- a file that is there and short enough
pub file_is : (files : FileMap) (name bytes : List ℕ) (limit : ℕ) → file_named files name ≡ Some bytes → length bytes ≤ limit → file_bytes files name limit ≡ Ok bytes
file_is files name bytes limit there short = rw (there, le-ltb limit (length bytes) short) refl

pub text_is : (words : PaintWords) (files : FileMap) (painted : PaintedText) → IsAccepted words files painted → text_told words.text files ≡ Ok painted.text
text_is words files painted is =
    let read : bytes_told words.text text_limit files ≡ Ok is.bytes = ap (told_by words.text) (file_is files words.text is.bytes text_limit is.text_file is.text_short) in
    ap (λ (e : Result (List ℕ) Fault). and_then e (lines_told words.text)) read ∙ ap (with_lines words.text) is.text_is

painting_is : (words : PaintWords) (files : FileMap) (painted : PaintedText) → IsAccepted words files painted → painting_told words files ≡ Ok painted
painting_is words files painted is =
    let known : syntax_told words.syntax files ≡ Ok painted.syntax = ap with_told is.syntax_is in
    let more : Syntax → Result PaintedText Fault = λ syntax. and_then (text_told words.text files) (painted_told words syntax) in
    ap (λ (e : Result Syntax Fault). and_then e more) known
    ∙ ap (λ (e : Result (List (List ℕ)) Fault). and_then e (painted_told words painted.syntax)) (text_is words files painted is)
    ∙ ap (with_spans words painted.syntax painted.text) is.spans_are
    ∙ rw (sym is.budget_is) refl

-- at level 0 all is shown
shown_is : (words : PaintWords) (files : FileMap) (painted : PaintedText) → words.conceal ≡ 0 → IsAccepted words files painted → picture_told words files ≡ Ok (picture.Shown painted)
shown_is words files painted all is =
    ap (λ (n : ℕ). picture_at (nat_eq n 0) words files) all
    ∙ ap (λ (e : Result PaintedText Fault). let f : Result Picture Fault = and_then e (λ p. Ok (picture.Shown p)) in f) (painting_is words files painted is)

-- an accepted run prints the spans
pub accepted_painted : (typed : List (List ℕ)) (files : FileMap) (script : List ℕ) (words : PaintWords) (painted : PaintedText) → asked_of typed ≡ Some (Print (Spans words)) → words.conceal ≡ 0 → IsAccepted words files painted → session typed files script ≡ shows (spans_bytes painted)
accepted_painted typed files script words painted asked all is =
    ap (with_asked files script) asked
    ∙ ap (λ (e : Result Picture Fault). session_told (and_then e (λ p. Ok (picture_bytes p)))) (shown_is words files painted all is)

-- or the page
pub accepted_pages : (typed : List (List ℕ)) (files : FileMap) (script : List ℕ) (words : PageWords) (painted : PaintedText) → asked_of typed ≡ Some (Print (Html words)) → (words.painting).conceal ≡ 0 → IsAccepted words.painting files painted → session typed files script ≡ shows (page_bytes words painted)
accepted_pages typed files script words painted asked all is =
    ap (with_asked files script) asked
    ∙ ap (λ (e : Result Picture Fault). session_told (and_then e (λ p. Ok (picture_page words p)))) (shown_is words.painting files painted all is)

-- or the folds
pub accepted_folded : (typed : List (List ℕ)) (files : FileMap) (script : List ℕ) (words : FoldWords) (painted : PaintedText) → asked_of typed ≡ Some (Print (Folds words)) → IsAccepted words.painting files painted → session typed files script ≡ shows (folds_shown words.close painted)
accepted_folded typed files script words painted asked is =
    ap (with_asked files script) asked
    ∙ ap (λ (e : Result PaintedText Fault). session_told (and_then e (λ p. Ok (folds_shown words.close p)))) (painting_is words.painting files painted is)

-- or what the commands of a script print
pub accepted_edited : (typed : List (List ℕ)) (files : FileMap) (script : List ℕ) (words : PageWords) (painted : PaintedText) → asked_of typed ≡ Some (Edit words) → IsAccepted words.painting files painted → session typed files script ≡ script_end (is_too_long script) (script_answer words files painted script)
accepted_edited typed files script words painted asked is =
    ap (with_asked files script) asked ∙ ap (edit_told words files script) (painting_is words.painting files painted is)

-- a script that isn't too long, and of which no command was refused
ends_well : (long : Bool) (answer : Answer) → long ≡ false → answer.stands.refused ≡ false → script_end long answer ≡ shows answer.text
ends_well long answer short none =
    ap (λ (l : Bool). script_end l answer) short
    ∙ ap (λ (r : Bool). let s : Session = record { out = answer.text; err = []; status = script_status r } in s) none

-- where each command is carried out, it ends well
pub accepted_carried_out : (typed : List (List ℕ)) (files : FileMap) (script : List ℕ) (words : PageWords) (painted : PaintedText) → asked_of typed ≡ Some (Edit words) → IsAccepted words.painting files painted → length script ≤ 67108864 → AreCarriedOut (library_of words painted.budget files) (edit_start words painted) (entries_read script) → session typed files script ≡ shows (script_answer words files painted script).text
accepted_carried_out typed files script words painted asked is short carried =
    accepted_edited typed files script words painted asked is
    ∙ ends_well (is_too_long script) (script_answer words files painted script) (le-ltb most_bytes (length script) short)
    (none_of_script (library_of words painted.budget files) (painter_of words painted.syntax painted.budget) (shown_of painted) script carried)

-- or the counts
pub accepted_counted : (words : List (List ℕ)) (files : FileMap) (script : List ℕ) (syntax : Syntax) → AcceptedSyntaxFile words files syntax → session words files script ≡ shows (syntax_counts syntax)
accepted_counted words files script syntax is =
    ap (with_asked files script) is.words_are
    ∙ ap (λ (e : Result Syntax Fault). session_told (and_then e (λ s. Ok (syntax_counts s)))) (ap with_told is.syntax_is)

-- a text within its limits is painted whole
spans_within : (syntax : Syntax) (budget : ℕ) (text : List (List ℕ)) → IsWithinLimits (syntax_rules syntax budget) text → (spans : List (List Span)) × (text_spans syntax budget text ≡ Ok spans)
spans_within syntax budget text limits =
    let accepted = texts_within_limits_are_accepted (syntax_rules syntax budget) text limits in
    (spans_of accepted.notes, ap spans_told accepted.whole)

pub within_painted : (words : PageWords) (syntax : Syntax) (budget : ℕ) (text : List (List ℕ)) → IsWithinLimits (syntax_rules syntax budget) text → IsOk (text_spans syntax budget text) × IsOk ((painter_of words syntax budget).paint text)
within_painted words syntax budget text limits =
    let painted = spans_within syntax budget text limits in
    let own : with_words syntax (text_spans syntax budget text) ≡ Ok painted.0 = ap (with_words syntax) painted.1 in
    let P : Result (List (List Span)) EditError → Type 0 = λ r. IsOk r in
    let Q : Result (List (List Span)) (List ℕ) → Type 0 = λ r. IsOk r in
    (subst P (sym painted.1) refl, subst Q (sym own) refl)
