-- The painter by a syntax: how a session paints a text, and how it tells and prints it.
use Rattle.std.specs.Prelude.{ℕ, Bool, true, false, List, [], ◌++◌, codes, Result, Ok, Err}
use Rattle.cause_print.specs.PlaceWords.{place_words}
use Rattle.edit_session.specs.Painter.{Painter, Painted}
use Rattle.program_words.specs.Given.{PageWords}
use Rattle.span_print.specs.SpanText.{line_text}
use Rattle.html_writer.specs.Page.{page_text}
use Rattle.paint_reuse.specs.Reuse.{lines_to_paint}
use Rattle.syn_base.specs.declared.places.Span.{Span}
use Rattle.syn_reader.specs.declared.syntax.Syntax.{Syntax}
use Rattle.state_cache.specs.declared.refusal.EditError.{EditError}
use Rattle.state_cache.specs.declared.refusal.EditError.TheVariants as refusal
use Rattle.state_cache.specs.PaintedText.{PaintedText}
use Rattle.paint_reuse.specs.Report.{report}
use Rattle.state_cache.specs.Shown.{text_shown}
use Rattle.state_cache.specs.Spans.{syntax_rules, text_spans}
use Rattle.vimsyn_cli.specs.declared.status.Status.{Status}
use Rattle.vimsyn_cli.specs.declared.status.Status.TheVariants.{Done, Refused}
use Rattle.vimsyn_cli.specs.Folds.{folds_text}
use Rattle.vimsyn_cli.specs.Painting.{group_name}
use Rattle.vimsyn_cli.specs.Printing.{page_options}
use Rattle.vimsyn_cli.specs.Substitutions.{substituted_by}

-- the words for a painting that is refused; the rules of painting know no want of memory, so nothing is
-- told of it
abbrev pub cause_words : Syntax → EditError → List ℕ
cause_words syntax (refusal.TooCostly line col item) =
    codes "too costly " ++ place_words line col ++ codes ": " ++ group_name syntax item
cause_words syntax (refusal.TooDeep line col) = codes "too deep " ++ place_words line col
cause_words syntax refusal.Memory = []

abbrev pub with_words : Syntax → Result (List (List Span)) EditError → Result (List (List Span)) (List ℕ)
with_words syntax (Ok spans) = Ok spans
with_words syntax (Err error) = Err (cause_words syntax error)

-- by what the session of a painted text paints and prints; the page is that of `html`. A change costs the lines that
-- aren't reusable behind it
abbrev pub painter_of : PageWords → Syntax → ℕ → Painter
painter_of words syntax budget = record {
  paint = λ text. with_words syntax (text_spans syntax budget text);
  report = λ before after a b count. report before after (record { a = a; b = b; count = count });
  costs = λ text r. lines_to_paint (syntax_rules syntax budget) text r.a r.b r.new;
  substitute = substituted_by budget;
  line = λ number spans. line_text syntax.groups syntax.links number spans true;
  page = λ text spans. page_text (words.painting).text text spans syntax.groups syntax.links (page_options words);
  folds = λ text. folds_text syntax budget text;
  shows = λ spans. text_shown syntax spans;
}

abbrev pub shown_of : PaintedText → Painted
shown_of painted = record { text = painted.text; spans = painted.spans }

abbrev pub script_status : Bool → Status
script_status true = Refused
script_status false = Done
