-- Laws of views in the subject's own terms.
use Rattle.std.specs.Prelude.{◌≡◌, ℕ, suc, List, length, map, Some, slice_get}
use Rattle.syn_base.specs.SpansFit.{IsFromColumn}
use Rattle.syn_base.specs.declared.places.Span.{Span}
use Rattle.conceal_view.specs.Cells.{Cell, SeenLine, group_at, line_of}

-- no span goes on in the next one: where they touch, their groups differ
abbrev pub AreMaximal : List Span → Type 0
AreMaximal spans =
    (i : ℕ) (span next : Span) → slice_get spans i ≡ Some span → slice_get spans (suc i) ≡ Some next
    → next.first ≡ suc span.last → next.group ≡ span.group → ⊥

-- the line of some characters with their groups: its spans are the longest runs of one same group
pub record ShowsLongestRuns (cells : List Cell) (line : SeenLine) : Type 0 where
  pub chars : line.chars ≡ map (λ cell. cell.char) cells
  pub fit : IsFromColumn 0 (length line.chars) line.spans
  pub maximal : AreMaximal line.spans
  pub shows : (c : ℕ) (cell : Cell) → slice_get cells c ≡ Some cell → group_at line.spans c ≡ cell.group

abbrev pub SpansAreTheLongestRuns : Type 0
SpansAreTheLongestRuns = (cells : List Cell) → ShowsLongestRuns cells (line_of cells)
