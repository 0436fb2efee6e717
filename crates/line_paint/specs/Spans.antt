-- Spans from the left, and what follows them.
use Rattle.std.specs.Prelude.{ℕ, zero, suc, true, false, nat_eq, ◌&&◌, List, [], ◌∷◌, ◌++◌, Option, Some, None}
use Rattle.syn_base.specs.declared.places.GroupId.{GroupId}
use Rattle.syn_base.specs.declared.places.Span.{Span}
use Rattle.paint_rules.specs.Line.{joined}
use Rattle.paint_rules.specs.Rules.{same_group}
use Rattle.line_paint.specs.declared.spans.Spans.{Spans}

abbrev pub span_of : ℕ → ℕ → GroupId → Span
span_of first last g = record { first = first; last = last; group = g }

-- the span that may go on, in front of others
abbrev pub front : Option Span → List Span → List Span
front None spans = spans
front (Some s) [] = s ∷ []
front (Some s) (t ∷ spans) =
    elim (nat_eq t.first (suc s.last) && same_group t.group s.group) [
      | true ↦ record t { first = s.first } ∷ spans
      | false ↦ s ∷ t ∷ spans
    ]

-- all spans, where these follow
abbrev pub chained : Spans → List Span → List Span
chained s spans = s.done ++ front s.growing spans

-- so many characters from a column on, which all show the same, in front of others
abbrev pub joined_run : ℕ → ℕ → Option GroupId → List Span → List Span
joined_run zero c g spans = spans
joined_run (suc n) c g spans = joined c g (joined_run n (suc c) g spans)
