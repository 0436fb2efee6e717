-- A line seen from left to right, span by span.
use Rattle.std.proofs.Common.{◌≡◌, ℕ, ◌+◌, ◌-◌, ◌≤◌, List, [], ◌∷◌, ◌++◌, length, drop, refl, sym, ap, ◌∙◌, arith}
use Rattle.std.specs.Prelude.{slice_range, Some, None}
use Rattle.std.proofs.lemmas.List.{drop_all, length-take, length-drop}
use Rattle.std.proofs.lemmas.List.Folds.{drop_split}
use Rattle.syn_base.specs.SpansFit.{IsFromColumn}
use Rattle.syn_base.specs.declared.places.GroupId.{GroupId}
use Rattle.syn_base.specs.declared.places.Span.{Span}
use Rattle.conceal_view.specs.declared.sight.Sight.{Sight}
use Rattle.conceal_view.specs.Cells.{cells_from}
use Rattle.conceal_view.specs.Seeing.{run_of, seen_at_last, HasSeen}
use Rattle.conceal_view.specs.View.{Blocks}
use Rattle.conceal_view.proofs.CellLaws.{cells_behind, cells_in_run, in_span, none_before}

length_of_range : (xs : List ℕ) (a b : ℕ) → a ≤ b → b ≤ length xs → a + length (slice_range xs a b) ≡ b
length_of_range xs a b le within = omega (arith, length-take (b - a) (drop a xs), length-drop a xs)

-- the characters from a column on: those in front of the first span, those of the span, and the rest
pub cells_at_span : (line : List ℕ) (column : ℕ) (span : Span) (spans : List Span) →
    IsFromColumn column (length line) (span ∷ spans) →
    cells_from (span ∷ spans) column (drop column line)
    ≡ run_of None (slice_range line column span.first)
    ++ (run_of (Some span.group) (slice_range line span.first (span.last + 1))
    ++ cells_from spans (span.last + 1) (drop (span.last + 1) line))
cells_at_span line column span spans fit =
    let front = slice_range line column span.first in
    let inside = slice_range line span.first (span.last + 1) in
    let rest = drop (span.last + 1) line in
    let first : column + length front ≡ span.first = length_of_range line column span.first fit.0 (omega (arith, fit.1, fit.2)) in
    let end : span.first + length inside ≡ span.last + 1 = length_of_range line span.first (span.last + 1) (omega (arith, fit.1)) (omega (arith, fit.2)) in
    ap (λ xs. cells_from (span ∷ spans) column xs) (drop_split line column span.first fit.0)
    ∙ cells_in_run (span ∷ spans) None column front (drop span.first line)
    (λ i from to. none_before span spans (length line) i fit.3 fit.1 (omega (arith, first)))
    ∙ ap (λ n. run_of None front ++ cells_from (span ∷ spans) n (drop span.first line)) first
    ∙ ap (λ xs. run_of None front ++ cells_from (span ∷ spans) span.first xs) (drop_split line span.first (span.last + 1) (omega (arith, fit.1)))
    ∙ ap (λ cells. run_of None front ++ cells)
    (cells_in_run (span ∷ spans) (Some span.group) span.first inside rest
    (λ i from to. in_span span spans i from (omega (arith, end)))
    ∙ ap (λ n. run_of (Some span.group) inside ++ cells_from (span ∷ spans) n rest) end
    ∙ ap (λ cells. run_of (Some span.group) inside ++ cells) (cells_behind span spans (span.last + 1) rest (omega arith)))

-- behind all spans nothing is shown
pub cells_at_end : (line : List ℕ) (column : ℕ) → column ≤ length line →
    cells_from [] column (drop column line) ≡ run_of None (slice_range line column (length line)) ++ []
cells_at_end line column le =
    ap (λ xs. cells_from [] column xs)
    (drop_split line column (length line) le ∙ ap (λ rest. slice_range line column (length line) ++ rest) (drop_all (length line) line (omega arith)))
    ∙ cells_in_run [] None column (slice_range line column (length line)) [] (λ i from to. refl)

module _ (blocks : Blocks) (cover : GroupId) (line : List ℕ) where
  pub span_seen : (column : ℕ) (span : Span) (spans : List Span) (before between after : Sight) →
      IsFromColumn column (length line) (span ∷ spans) →
      HasSeen blocks cover None (slice_range line column span.first) before between →
      HasSeen blocks cover (Some span.group) (slice_range line span.first (span.last + 1)) between after →
      seen_at_last blocks cover after (cells_from spans (span.last + 1) (drop (span.last + 1) line))
      ≡ seen_at_last blocks cover before (cells_from (span ∷ spans) column (drop column line))
  span_seen column span spans before between after fit front inside =
      let rest = cells_from spans (span.last + 1) (drop (span.last + 1) line) in
      inside rest
      ∙ front (run_of (Some span.group) (slice_range line span.first (span.last + 1)) ++ rest)
      ∙ ap (λ cells. seen_at_last blocks cover before cells) (sym (cells_at_span line column span spans fit))

  pub end_seen : (column : ℕ) (before after : Sight) → column ≤ length line →
      HasSeen blocks cover None (slice_range line column (length line)) before after →
      after.line ≡ seen_at_last blocks cover before (cells_from [] column (drop column line))
  end_seen column before after le front =
      front [] ∙ ap (λ cells. seen_at_last blocks cover before cells) (sym (cells_at_end line column le))
