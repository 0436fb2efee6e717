-- The spans of a text's lines, or its first refusal.
use Rattle.std.specs.Prelude.{ℕ, List, map, Result, Ok, Err}
use Rattle.syn_base.specs.declared.places.Span.{Span}
use Rattle.syn_reader.specs.declared.syntax.Syntax.{Syntax}
use Rattle.match_rules.specs.Ways.{Text}
use Rattle.paint_rules.specs.Rules.{Rules, TooCostly, TooDeep}
use Rattle.paint_rules.specs.Line.{Refusal, Note, Painting, Whole, Fails, painting}
use Rattle.paint_rules.specs.Syntax.{rules_of}
use Rattle.line_paint.specs.declared.paint.PaintError.{PaintError}
use Rattle.line_paint.specs.declared.paint.PaintError.TheVariants as line
use Rattle.state_cache.specs.declared.refusal.EditError.{EditError}
use Rattle.state_cache.specs.declared.refusal.EditError.TheVariants as error

-- a refusal with its line
abbrev pub refused_at : ℕ → Refusal → EditError
refused_at l refusal = elim refusal.cause [ TooCostly i ↦ error.TooCostly l refusal.col i | TooDeep ↦ error.TooDeep l refusal.col ]

abbrev pub spans_of : List Note → List (List Span)
spans_of notes = map (λ note. note.spans) notes

abbrev pub spans_told : Painting → Result (List (List Span)) EditError
spans_told (Whole notes) = Ok (spans_of notes)
spans_told (Fails l refusal) = Err (refused_at l refusal)

-- the rules of a syntax that was read, with a budget of ticks for an attempt
abbrev pub syntax_rules : Syntax → ℕ → Rules
syntax_rules syntax budget = rules_of syntax.items (syntax.clusters).lists syntax.keywords syntax.sets budget

-- the painting of a text from its first line on, by the rules of a syntax
abbrev pub text_spans : Syntax → ℕ → Text → Result (List (List Span)) EditError
text_spans syntax budget text = spans_told (painting (syntax_rules syntax budget) text)

-- a line's refusal as that of the text
abbrev pub at_line : ℕ → PaintError → EditError
at_line l (line.TooCostly c i) = error.TooCostly l c i
at_line l (line.TooDeep c) = error.TooDeep l c
at_line l line.Memory = error.Memory
