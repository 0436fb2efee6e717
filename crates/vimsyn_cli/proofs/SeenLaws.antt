-- Accepted files are seen where something is to be concealed.
use Rattle.std.proofs.Common.{◌≡◌, ℕ, ◌≤◌, ◌<◌, List, length, map, refl, ap, sym, ◌∙◌, arith, true, false}
use Rattle.std.proofs.lemmas.Bool.Decides.{nat_tests}
use Rattle.std.specs.Prelude.{Bool, Option, Some, None, Result, Ok, Err, not, ◌&&◌, is_some, nat_eq}
use Rattle.conceal_view.proofs.MarkedLaws.{marked_paintings_are_the_old_ones}
use Rattle.conceal_view.specs.Marking.{old_groups}
use Rattle.conceal_view.specs.MarkedPaintings.{marked_rules}
use Rattle.conceal_view.specs.Marks.{marks_of}
use Rattle.syntax_set.specs.NoMarks.{HaveNoMarks}
use Rattle.paint_marks.specs.Alike.{RefusedAt, Spans as SpansOf, Told, told_of, unmarked_told}
use Rattle.paint_marks.specs.OldGroups.{OldGroups, unmarked_spans}
use Rattle.paint_rules.specs.Line.{Painting, Whole, Fails, painting}
use Rattle.program_words.specs.declared.words.Asked.TheVariants.{Print}
use Rattle.program_words.specs.declared.words.Printing.TheVariants.{Html, Spans}
use Rattle.program_words.specs.Given.{PageWords, PaintWords}
use Rattle.program_words.specs.Words.{asked_of}
use Rattle.state_cache.specs.declared.refusal.EditError.{EditError}
use Rattle.state_cache.specs.PaintedText.{PaintedText}
use Rattle.state_cache.specs.Spans.{refused_at, spans_of, spans_told, syntax_rules, text_spans}
use Rattle.syn_base.specs.declared.places.GroupId.{GroupId}
use Rattle.syn_base.specs.declared.places.Span.{Span}
use Rattle.syn_base.specs.Outside.{FileMap}
use Rattle.syn_reader.specs.declared.syntax.ReadOptions.{ReadOptions}
use Rattle.syn_reader.specs.declared.syntax.Syntax.{Syntax}
use Rattle.syn_reader.specs.Names.{is_full}
use Rattle.syn_reader.specs.SyntaxOf.{syntax_of, told_by}
use Rattle.syn_reader.proofs.NoMarkRuns.{read_syntaxes_name_no_marks}
use Rattle.syntax_set.specs.Groups.{group_of, with_group}
use Rattle.vimsyn_cli.specs.declared.fault.Fault.{Fault}
use Rattle.vimsyn_cli.specs.declared.picture.Picture.{Picture}
use Rattle.vimsyn_cli.specs.declared.picture.Picture.TheVariants as picture
use Rattle.vimsyn_cli.specs.Concealing.{ConcealedText, concealed_told, cover_name, covered_if, covered_told, marked_syntax, marked_told, with_cover, with_marks}
use Rattle.vimsyn_cli.specs.Laws.{HasRoomForCover, IsAccepted, ShowsView, concealed_of}
use Rattle.vimsyn_cli.specs.Painting.{text_told}
use Rattle.vimsyn_cli.specs.Plans.{and_then}
use Rattle.vimsyn_cli.specs.Printing.{picture_at, picture_bytes, picture_page, picture_told, seen_bytes, seen_page}
use Rattle.vimsyn_cli.specs.Reading.{options_of, syntax_told, with_told}
use Rattle.vimsyn_cli.specs.Session.{session, session_told, with_asked}
use Rattle.vimsyn_cli.proofs.SessionLaws.{text_is}

-- ---- the marked painting

abbrev answer_of : Told → Result (List (List Span)) EditError
answer_of (SpansOf lines) = Ok lines
answer_of (RefusedAt l refusal) = Err (refused_at l refusal)

answered : (p : Painting) → spans_told p ≡ answer_of (told_of p)
answered (Whole notes) = refl
answered (Fails l refusal) = refl

record IsMarkedAs (old : OldGroups) (p : Painting) (spans : List (List Span)) : Type 0 where
  marked : List (List Span)
  told : spans_told p ≡ Ok marked
  stand : map (unmarked_spans old) marked ≡ spans

ok_same : (a b : List (List Span)) → ◌≡◌ {A = Result (List (List Span)) EditError} (Ok a) (Ok b) → a ≡ b
ok_same a b e = cc e

marked_as : (old : OldGroups) (p : Painting) (told : Told) (spans : List (List Span)) → unmarked_told old (told_of p) ≡ told → answer_of told ≡ Ok spans → IsMarkedAs old p spans
marked_as old (Whole notes) told spans same is =
    record { marked = spans_of notes; told = refl; stand = ok_same (map (unmarked_spans old) (spans_of notes)) spans (ap answer_of same ∙ is) }
marked_as old (Fails l refusal) told spans same is = absurd (cc (ap answer_of same ∙ is))

refused_as : (old : OldGroups) (p : Painting) (told : Told) (error : EditError) → unmarked_told old (told_of p) ≡ told → answer_of told ≡ Err error → spans_told p ≡ Err error
refused_as old (Whole notes) told error same is = absurd (cc (ap answer_of same ∙ is))
refused_as old (Fails l refusal) told error same is = ap answer_of same ∙ is

seen_spans : (syntax : Syntax) (budget : ℕ) (text : List (List ℕ)) (spans : List (List Span)) → HaveNoMarks syntax.items (syntax.clusters).lists → text_spans syntax budget text ≡ Ok spans → IsMarkedAs (old_groups (marks_of syntax.items)) (painting (syntax_rules (marked_syntax syntax) budget) text) spans
seen_spans syntax budget text spans none is =
    let r = syntax_rules syntax budget in
    marked_as (old_groups (marks_of syntax.items)) (painting (marked_rules r) text) (told_of (painting r text)) spans
    (marked_paintings_are_the_old_ones r none text) (sym (answered (painting r text)) ∙ is)

pub refused_alike : (files : FileMap) (name : List ℕ) (options : ReadOptions) (syntax : Syntax) (budget : ℕ) (text : List (List ℕ)) (error : EditError) → syntax_of files name options ≡ Ok syntax → text_spans syntax budget text ≡ Err error → text_spans (marked_syntax syntax) budget text ≡ Err error
refused_alike files name options syntax budget text error read is =
    let none = read_syntaxes_name_no_marks (told_by files) name options syntax read in
    let r = syntax_rules syntax budget in
    refused_as (old_groups (marks_of syntax.items)) (painting (marked_rules r) text) (told_of (painting r text)) error
    (marked_paintings_are_the_old_ones r none text) (sym (answered (painting r text)) ∙ is)

-- an accepted syntax names no mark
unmarked : (words : PaintWords) (files : FileMap) (painted : PaintedText) → IsAccepted words files painted → HaveNoMarks painted.syntax.items (painted.syntax.clusters).lists
unmarked words files painted is = read_syntaxes_name_no_marks (told_by files) (words.syntax).syntax (options_of words.syntax) painted.syntax is.syntax_is

-- ---- the group that covers has room

less_is_other : (n most : ℕ) → n < most → nat_eq n most ≡ false
less_is_other n most less = grind (arith, nat_tests)

roomy : (o : Option GroupId) (n most : ℕ) → (o ≡ None → n < most) → (not (is_some o) && nat_eq n most) ≡ false
roomy (Some g) n most h = refl
roomy None n most h = less_is_other n most (h refl)

covered_of : (name : List ℕ) (syntax : Syntax) → HasRoomForCover syntax → with_cover name syntax ≡ Ok (record syntax { groups = with_group syntax.groups cover_name })
covered_of name syntax may = ap (λ (full : Bool). covered_if full name syntax) (roomy (group_of syntax.groups cover_name) (length syntax.groups) 20000 may)

-- ---- what is seen

concealed_is : (words : PaintWords) (files : FileMap) (painted : PaintedText) (spans : List (List Span)) → IsAccepted words files painted → HasRoomForCover painted.syntax → text_spans (marked_syntax painted.syntax) words.budget painted.text ≡ Ok spans → concealed_told words files ≡ Ok (concealed_of words painted spans)
concealed_is words files painted spans is may marked =
    let covered : Syntax = record painted.syntax { groups = with_group painted.syntax.groups cover_name } in
    let more : Syntax → Result ConcealedText Fault = λ syntax. and_then (text_told words.text files) (marked_told words syntax) in
    let known : syntax_told words.syntax files ≡ Ok painted.syntax = ap with_told is.syntax_is in
    let room : covered_told words.syntax files ≡ Ok covered =
    ap (λ (e : Result Syntax Fault). and_then e (with_cover words.syntax.syntax)) known ∙ covered_of words.syntax.syntax painted.syntax may in
    ap (λ (e : Result Syntax Fault). and_then e more) room
    ∙ ap (λ (e : Result (List (List ℕ)) Fault). and_then e (marked_told words covered)) (text_is words files painted is)
    ∙ ap (with_marks words covered painted.text) marked

some_level : (level : ℕ) → 1 ≤ level → nat_eq level 0 ≡ false
some_level level some = grind (arith, nat_tests)

picture_is : (words : PaintWords) (files : FileMap) (painted : PaintedText) (spans : List (List Span)) → 1 ≤ words.conceal → IsAccepted words files painted → HasRoomForCover painted.syntax → text_spans (marked_syntax painted.syntax) words.budget painted.text ≡ Ok spans → picture_told words files ≡ Ok (picture.Concealed (concealed_of words painted spans))
picture_is words files painted spans some is may marked =
    ap (λ (all : Bool). picture_at all words files) (some_level words.conceal some)
    ∙ ap (λ (e : Result ConcealedText Fault). let f : Result Picture Fault = and_then e (λ text. Ok (picture.Concealed text)) in f) (concealed_is words files painted spans is may marked)

-- the spans of the view
pub accepted_seen : (typed : List (List ℕ)) (files : FileMap) (script : List ℕ) (words : PaintWords) (painted : PaintedText) → asked_of typed ≡ Some (Print (Spans words)) → 1 ≤ words.conceal → IsAccepted words files painted → HasRoomForCover painted.syntax → ShowsView words painted seen_bytes (session typed files script)
accepted_seen typed files script words painted asked some is may =
    let seen = seen_spans painted.syntax words.budget painted.text painted.spans (unmarked words files painted is) is.spans_are in
    record {
      spans = seen.marked;
      marked = seen.told;
      stand = seen.stand;
      printed = ap (with_asked files script) asked
          ∙ ap (λ (e : Result Picture Fault). session_told (and_then e (λ p. Ok (picture_bytes p)))) (picture_is words files painted seen.marked some is may seen.told);
    }

-- or its page
pub accepted_seen_pages : (typed : List (List ℕ)) (files : FileMap) (script : List ℕ) (words : PageWords) (painted : PaintedText) → asked_of typed ≡ Some (Print (Html words)) → 1 ≤ (words.painting).conceal → IsAccepted words.painting files painted → HasRoomForCover painted.syntax → ShowsView words.painting painted (seen_page words) (session typed files script)
accepted_seen_pages typed files script words painted asked some is may =
    let seen = seen_spans painted.syntax words.painting.budget painted.text painted.spans (unmarked words.painting files painted is) is.spans_are in
    record {
      spans = seen.marked;
      marked = seen.told;
      stand = seen.stand;
      printed = ap (with_asked files script) asked
          ∙ ap (λ (e : Result Picture Fault). session_told (and_then e (λ p. Ok (picture_page words p)))) (picture_is words.painting files painted seen.marked some is may seen.told);
    }
