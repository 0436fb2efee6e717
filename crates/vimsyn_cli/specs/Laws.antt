-- Laws of the session in the subject's own terms: what an accepted run gives.
use Rattle.std.specs.Prelude.{◌≡◌, ℕ, ◌<◌, ◌≤◌, List, length, map, codes, Some, None, Ok, Err, IsOk}
use Rattle.conceal_view.specs.Marking.{old_groups}
use Rattle.conceal_view.specs.Marks.{marks_of}
use Rattle.edit_session.specs.Laws.{AreCarriedOut}
use Rattle.edit_session.specs.Session.{entries_read, is_too_long}
use Rattle.large_session.specs.Laws.{ArePainted}
use Rattle.large_session.specs.LargeSession.{edit_count, five_lines, large_text, number_behind, start as large_start}
use Rattle.program_words.specs.declared.words.Asked.TheVariants.{Edit, Large, Print}
use Rattle.program_words.specs.declared.words.Printing.TheVariants.{Check, Folds, Html, Spans}
use Rattle.program_words.specs.Given.{CheckWords, FoldWords, LargeWords, PageWords, PaintWords}
use Rattle.program_words.specs.Words.{asked_of, large_page}
use Rattle.syn_base.specs.declared.places.Span.{Span}
use Rattle.syn_base.specs.Outside.{FileMap, file_named}
use Rattle.syn_reader.specs.declared.syntax.ReadOptions.{ReadOptions}
use Rattle.syn_reader.specs.declared.syntax.Syntax.{Syntax}
use Rattle.syn_reader.specs.SyntaxOf.{syntax_of}
use Rattle.state_cache.specs.declared.refusal.EditError.{EditError}
use Rattle.state_cache.specs.PaintedText.{PaintedText}
use Rattle.paint_marks.specs.OldGroups.{unmarked_spans}
use Rattle.paint_laws.specs.Accepted.{IsWithinLimits}
use Rattle.state_cache.specs.Spans.{syntax_rules, text_spans}
use Rattle.syntax_set.specs.Groups.{group_of, with_group}
use Rattle.text_buffer.specs.TextOfBytes.{text_of}
use Rattle.vimsyn_cli.specs.Check.{syntax_counts}
use Rattle.vimsyn_cli.specs.Concealing.{ConcealedText, cover_name, marked_syntax}
use Rattle.vimsyn_cli.specs.Editing.{painter_of, shown_of}
use Rattle.vimsyn_cli.specs.EditRun.{edit_start, script_answer, script_end}
use Rattle.vimsyn_cli.specs.Folds.{folds_shown}
use Rattle.vimsyn_cli.specs.Large.{large_files, large_painter, large_standing, large_told}
use Rattle.vimsyn_cli.specs.Printing.{page_bytes, seen_bytes, seen_page, spans_bytes}
use Rattle.vimsyn_cli.specs.Reading.{options_of}
use Rattle.vimsyn_cli.specs.Renewal.{library_of}
use Rattle.vimsyn_cli.specs.Session.{session}
use Rattle.vimsyn_cli.specs.Written.{Session, shows}

-- a syntax file that the rules of reading accept, and a text file that is there, short enough and
-- accepted, all of whose lines are painted
pub record IsAccepted (words : PaintWords) (files : FileMap) (painted : PaintedText) : Type 0 where
  pub bytes : List ℕ
  pub syntax_is : syntax_of files (words.syntax).syntax (options_of words.syntax) ≡ Ok painted.syntax
  pub text_file : file_named files words.text ≡ Some bytes
  pub text_short : length bytes ≤ 67108864
  pub text_is : text_of bytes ≡ Ok painted.text
  pub budget_is : painted.budget ≡ words.budget
  pub spans_are : text_spans painted.syntax words.budget painted.text ≡ Ok painted.spans

-- such a run prints the spans of the text, its page, or its folds; of the first two all is shown, as the level of
-- concealing is 0
abbrev pub AcceptedFilesArePainted : Type 0
AcceptedFilesArePainted =
    (typed : List (List ℕ)) (files : FileMap) (script : List ℕ) (words : PaintWords) (painted : PaintedText)
    → asked_of typed ≡ Some (Print (Spans words)) → words.conceal ≡ 0 → IsAccepted words files painted
    → session typed files script ≡ shows (spans_bytes painted)

abbrev pub AcceptedFilesArePages : Type 0
AcceptedFilesArePages =
    (typed : List (List ℕ)) (files : FileMap) (script : List ℕ) (words : PageWords) (painted : PaintedText)
    → asked_of typed ≡ Some (Print (Html words)) → (words.painting).conceal ≡ 0 → IsAccepted words.painting files painted
    → session typed files script ≡ shows (page_bytes words painted)

abbrev pub AcceptedFilesAreFolded : Type 0
AcceptedFilesAreFolded =
    (typed : List (List ℕ)) (files : FileMap) (script : List ℕ) (words : FoldWords) (painted : PaintedText)
    → asked_of typed ≡ Some (Print (Folds words)) → IsAccepted words.painting files painted
    → session typed files script ≡ shows (folds_shown words.close painted)

-- a syntax that has the group of the characters that are put, or room for it
abbrev pub HasRoomForCover : Syntax → Type 0
HasRoomForCover syntax = group_of syntax.groups cover_name ≡ None → length syntax.groups < 20000

-- a painted text with spans that show marks
abbrev pub concealed_of : PaintWords → PaintedText → List (List Span) → ConcealedText
concealed_of words painted spans = record {
  names = with_group (painted.syntax).groups cover_name;
  links = (painted.syntax).links;
  items = (painted.syntax).items;
  level = words.conceal;
  text = painted.text;
  spans = spans;
}

-- What a run prints where something is to be concealed: it is made of the spans of the marked painting, which are those
-- of the painting, with each mark replaced by the group that it stands for and equal neighbours joined.
pub record ShowsView (words : PaintWords) (painted : PaintedText) (print : ConcealedText → List ℕ) (session : Session) : Type 0 where
  pub spans : List (List Span)
  pub marked : text_spans (marked_syntax painted.syntax) words.budget painted.text ≡ Ok spans
  pub stand : map (unmarked_spans (old_groups (marks_of (painted.syntax).items))) spans ≡ painted.spans
  pub printed : session ≡ shows (print (concealed_of words painted spans))

-- where the level is 1 to 3, such a run prints the spans of the view, or its page
abbrev pub AcceptedFilesAreSeen : Type 0
AcceptedFilesAreSeen =
    (typed : List (List ℕ)) (files : FileMap) (script : List ℕ) (words : PaintWords) (painted : PaintedText)
    → asked_of typed ≡ Some (Print (Spans words)) → 1 ≤ words.conceal → IsAccepted words files painted → HasRoomForCover painted.syntax
    → ShowsView words painted seen_bytes (session typed files script)

abbrev pub AcceptedFilesAreSeenPages : Type 0
AcceptedFilesAreSeenPages =
    (typed : List (List ℕ)) (files : FileMap) (script : List ℕ) (words : PageWords) (painted : PaintedText)
    → asked_of typed ≡ Some (Print (Html words)) → 1 ≤ (words.painting).conceal → IsAccepted words.painting files painted → HasRoomForCover painted.syntax
    → ShowsView words.painting painted (seen_page words) (session typed files script)

-- and a text that is refused is so as without, with the same line, column and item
abbrev pub ViewsAreRefusedAlike : Type 0
ViewsAreRefusedAlike =
    (files : FileMap) (name : List ℕ) (options : ReadOptions) (syntax : Syntax) (budget : ℕ) (text : List (List ℕ)) (error : EditError)
    → syntax_of files name options ≡ Ok syntax → text_spans syntax budget text ≡ Err error
    → text_spans (marked_syntax syntax) budget text ≡ Err error

-- or, for `edit`, prints what the commands of the script print, one after the other
abbrev pub AcceptedTextsAreEdited : Type 0
AcceptedTextsAreEdited =
    (typed : List (List ℕ)) (files : FileMap) (script : List ℕ) (words : PageWords) (painted : PaintedText)
    → asked_of typed ≡ Some (Edit words) → IsAccepted words.painting files painted
    → session typed files script ≡ script_end (is_too_long script) (script_answer words files painted script)

-- and where each command of a script fits the text as it is then, each one by pattern comes to a change or a count, each
-- syntax file that they name is accepted, and so is the painting of each text that they change or paint by another syntax,
-- it ends well, with what the commands print
abbrev pub CarriedOutScriptsAreDone : Type 0
CarriedOutScriptsAreDone =
    (typed : List (List ℕ)) (files : FileMap) (script : List ℕ) (words : PageWords) (painted : PaintedText)
    → asked_of typed ≡ Some (Edit words) → IsAccepted words.painting files painted → length script ≤ 67108864
    → AreCarriedOut (library_of words painted.budget files) (edit_start words painted) (entries_read script)
    → session typed files script ≡ shows (script_answer words files painted script).text

-- a text is painted whole, at first and behind a command, where no attempt that its painting may make costs more
-- than the budget, and at most 1,000 frames stand wherever something starts
abbrev pub TextsWithinLimitsArePainted : Type 0
TextsWithinLimitsArePainted =
    (words : PageWords) (syntax : Syntax) (budget : ℕ) (text : List (List ℕ))
    → IsWithinLimits (syntax_rules syntax budget) text
    → IsOk (text_spans syntax budget text) × IsOk ((painter_of words syntax budget).paint text)

-- the generated text of the large mode, of as many lines as the table of words has it, all of which are
-- painted by the kept syntax
pub record IsLargePainted (words : LargeWords) (painted : PaintedText) : Type 0 where
  pub some : 1 ≤ words.lines
  pub few : words.lines ≤ 100000
  pub syntax_is : syntax_of (large_files words) (codes "mini.vim") (options_of (large_page words).painting.syntax) ≡ Ok painted.syntax
  pub text_is : painted.text ≡ large_text words.seed words.lines
  pub budget_is : painted.budget ≡ words.budget
  pub spans_are : text_spans painted.syntax words.budget painted.text ≡ Ok painted.spans

-- such a run prints the five lines of the edits on it
abbrev pub AcceptedLargeTextsAreEdited : Type 0
AcceptedLargeTextsAreEdited =
    (typed : List (List ℕ)) (files : FileMap) (script : List ℕ) (words : LargeWords) (painted : PaintedText)
    → asked_of typed ≡ Some (Large words) → IsLargePainted words painted
    → session typed files script ≡ large_told words (Ok painted)

-- and where the painting of each text that they change is accepted, it ends well
abbrev pub PaintedLargeTextsAreDone : Type 0
PaintedLargeTextsAreDone =
    (typed : List (List ℕ)) (files : FileMap) (script : List ℕ) (words : LargeWords) (painted : PaintedText)
    → asked_of typed ≡ Some (Large words) → IsLargePainted words painted
    → ArePainted (large_painter words painted) (edit_count words.lines) (large_start (shown_of painted))
    (number_behind words.seed words.lines)
    → session typed files script ≡ shows (five_lines (large_standing words painted))

-- the kept syntax file is accepted
abbrev pub KeptSyntaxIsAccepted : Type 0
KeptSyntaxIsAccepted =
    (words : LargeWords) → IsOk (syntax_of (large_files words) (codes "mini.vim") (options_of (large_page words).painting.syntax))

-- words of the table for `check`, with a syntax file that the rules of reading accept, by the files that
-- it asks for
pub record AcceptedSyntaxFile (words : List (List ℕ)) (files : FileMap) (syntax : Syntax) : Type 0 where
  pub asked : CheckWords
  pub words_are : asked_of words ≡ Some (Print (Check asked))
  pub syntax_is : syntax_of files asked.syntax (options_of asked) ≡ Ok syntax

-- such a run prints how many items, keywords and clusters there are
abbrev pub AcceptedSyntaxFilesAreCounted : Type 0
AcceptedSyntaxFilesAreCounted =
    (words : List (List ℕ)) (files : FileMap) (script : List ℕ) (syntax : Syntax)
    → AcceptedSyntaxFile words files syntax → session words files script ≡ shows (syntax_counts syntax)
