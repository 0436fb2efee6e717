-- How the answers of a line's painting are read.
use Rattle.std.specs.Prelude.{◌≡◌, ℕ, List, Some, Result, Ok, Err, pos}
use Rattle.syn_base.specs.declared.looked.Looked.{Looked}
use Rattle.syn_base.specs.Looked.{moved_by}
use Rattle.syn_base.specs.declared.places.Span.{Span}
use Rattle.paint_rules.specs.Painted.{Painted, Done, looked_first, done, refusal_of, ◌>>=◌}
use Rattle.paint_rules.specs.Rules.{Here, TooCostly, TooDeep}
use Rattle.paint_rules.specs.States as rule
use Rattle.paint_rules.specs.Line.{Refusal, PaintedLine, painted_from}
use Rattle.state_stack.specs.declared.state.State.{State}
use Rattle.line_paint.specs.declared.answers.Stop.{Stop}
use Rattle.line_paint.specs.declared.answers.Stop.TheVariants as stop
use Rattle.line_paint.specs.declared.paint.PaintError.{PaintError}
use Rattle.line_paint.specs.declared.paint.PaintError.TheVariants as error
use Rattle.line_paint.specs.declared.paint.LineNote.{LineNote}
use Rattle.line_paint.specs.declared.spans.Spans.{Spans}
use Rattle.line_paint.specs.declared.standing.Standing.{Standing}
use Rattle.state_stack.specs.TopFirst.{top_first}
use Rattle.line_paint.specs.Leads.{standing_of}
use Rattle.line_paint.specs.Spans.{chained}

abbrev pub at_of : Stop → ℕ → PaintError
at_of (stop.TooCostly i) c = error.TooCostly c i
at_of stop.TooDeep c = error.TooDeep c
at_of stop.Memory c = error.Memory

abbrev pub FailsAs : {A : Type 0} → PaintError → Painted Refusal A → Type 0
FailsAs (error.TooCostly c i) p = refusal_of p ≡ Some (record { col = c; cause = TooCostly i })
FailsAs (error.TooDeep c) p = refusal_of p ≡ Some (record { col = c; cause = TooDeep })
FailsAs error.Memory p = Unit {0}

-- a call answers as a rule says: from some looks on it leads to others, and to a value, which is
-- seen by `view`
abbrev pub ComesAs : {A B : Type 0} → (A → B) → Result A PaintError → Looked → Looked →
    Painted Refusal B → Type 0
ComesAs view (Ok a) j k p = looked_first (Some j) p ≡ Done (view a) (Some k)
ComesAs view (Err e) j k p = FailsAs e p

-- it leads from one standing to another
abbrev pub LeadsAt : {A : Type 0} → Result A PaintError → Standing → Standing →
    Painted Refusal rule.Standing → Type 0
LeadsAt r from to p = ComesAs (λ _. standing_of to) r from.looked to.looked p

-- and to the spans of the columns between them
abbrev pub Paints : Result (List Span) PaintError → Standing → Standing →
    Painted Refusal PaintedLine → Type 0
Paints r from to p =
    ComesAs (λ spans. record { spans = spans; after = top_first to.state }) r from.looked to.looked p

-- the note of a line, whose looked lines count from it, or why there is none
abbrev pub PaintedAs : Result LineNote PaintError → ℕ → State → Painted Refusal PaintedLine → Type 0
PaintedAs (Ok note) l before p =
    (note.before ≡ before)
    × (p ≡ Done (record { spans = note.spans; after = top_first note.after })
    (Some (moved_by note.looked (pos l))))
PaintedAs (Err e) l before p = FailsAs e p

-- what is left of a line, where these spans stand to the left
abbrev pub painted_rest : Here → ℕ → List ℕ → rule.Standing → Spans → Painted Refusal PaintedLine
painted_rest h c line s spans = do
  rest ← painted_from h c line s
  done (record rest { spans = chained spans rest.spans })
