-- What `spans` and `html` print: of a painted text, or of its view.
use Rattle.std.specs.Prelude.{ℕ, suc, nat_eq, Bool, true, false, List, [], ◌∷◌, ◌++◌, Result, Ok}
use Rattle.conceal_view.specs.View.{lines_in, spans_in}
use Rattle.html_writer.specs.declared.PageOptions.{PageOptions}
use Rattle.html_writer.specs.Page.{page_text}
use Rattle.program_words.specs.Given.{PageWords, PaintWords}
use Rattle.span_print.specs.SpanText.{line_text}
use Rattle.syn_base.specs.declared.places.Span.{Span}
use Rattle.syn_base.specs.Outside.{FileMap}
use Rattle.hi_links.specs.declared.highlight.Highlight.{Highlight}
use Rattle.state_cache.specs.PaintedText.{PaintedText}
use Rattle.vimsyn_cli.specs.declared.fault.Fault.{Fault}
use Rattle.vimsyn_cli.specs.declared.picture.Picture.{Picture}
use Rattle.vimsyn_cli.specs.declared.picture.Picture.TheVariants as picture
use Rattle.vimsyn_cli.specs.Concealing.{ConcealedText, concealed_told, seen_of}
use Rattle.vimsyn_cli.specs.Painting.{painting_told}
use Rattle.vimsyn_cli.specs.Plans.{and_then}

-- ---- the text that is printed

-- at level 0 all is shown
abbrev pub picture_at : Bool → PaintWords → FileMap → Result Picture Fault
picture_at true words files = and_then (painting_told words files) (λ painted. Ok (picture.Shown painted))
picture_at false words files = and_then (concealed_told words files) (λ text. Ok (picture.Concealed text))

abbrev pub picture_told : PaintWords → FileMap → Result Picture Fault
picture_told words files = picture_at (nat_eq words.conceal 0) words files

-- ---- its spans

-- the span lines of some lines, the first of which has this number; a line without spans has none
abbrev pub spans_from : List (List ℕ) → List Highlight → ℕ → List (List Span) → List ℕ
spans_from names links number [] = []
spans_from names links number (spans ∷ rest) =
    line_text names links number spans false ++ spans_from names links (suc number) rest

abbrev pub spans_bytes : PaintedText → List ℕ
spans_bytes painted = spans_from (painted.syntax).groups (painted.syntax).links 0 painted.spans

-- those of the view, whose columns count in it
abbrev pub seen_bytes : ConcealedText → List ℕ
seen_bytes text = spans_from text.names text.links 0 (spans_in (seen_of text))

abbrev pub picture_bytes : Picture → List ℕ
picture_bytes (picture.Shown painted) = spans_bytes painted
picture_bytes (picture.Concealed text) = seen_bytes text

abbrev pub spans_told : PaintWords → FileMap → Result (List ℕ) Fault
spans_told words files = and_then (picture_told words files) (λ shown. Ok (picture_bytes shown))

-- ---- its page

-- the page of a painted text, with the text's name as title
abbrev pub page_options : PageWords → PageOptions
page_options words = record { number = words.number; pre = words.pre }

abbrev pub page_bytes : PageWords → PaintedText → List ℕ
page_bytes words painted =
    page_text (words.painting).text painted.text painted.spans (painted.syntax).groups (painted.syntax).links (page_options words)

-- that of the view
abbrev pub seen_page : PageWords → ConcealedText → List ℕ
seen_page words text =
    page_text (words.painting).text (lines_in (seen_of text)) (spans_in (seen_of text)) text.names text.links (page_options words)

abbrev pub picture_page : PageWords → Picture → List ℕ
picture_page words (picture.Shown painted) = page_bytes words painted
picture_page words (picture.Concealed text) = seen_page words text

abbrev pub html_told : PageWords → FileMap → Result (List ℕ) Fault
html_told words files = and_then (picture_told words.painting files) (λ shown. Ok (picture_page words shown))
