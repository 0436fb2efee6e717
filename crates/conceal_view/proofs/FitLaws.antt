-- The spans of a view fit its lines.
use Rattle.std.proofs.Common.{◌≡◌, ℕ, zero, suc, ◌+◌, ◌<◌, ◌≤◌, Bool, true, false, List, [], ◌∷◌, ◌++◌, length, refl, sym, subst, arith}
use Rattle.std.specs.Prelude.{◌&&◌, nat_eq, Option, Some, None}
use Rattle.std.proofs.lemmas.Bool.Decides.{nat_tests}
use Rattle.std.proofs.lemmas.List.{length-append}
use Rattle.syn_base.specs.SpansFit.{FitLines, IsFromColumn}
use Rattle.syn_base.specs.declared.places.GroupId.{GroupId}
use Rattle.syn_base.specs.declared.places.Span.{Span}
use Rattle.conceal_view.specs.Cells.{Cell, SeenLine, cells_of, goes_on, no_characters, same_group, with_run, with_cell}
use Rattle.conceal_view.specs.Seeing.{with_cells}
use Rattle.conceal_view.specs.View.{Blocks, lines_in, seen_from, seen_line, seen_lines, spans_in}
use Rattle.conceal_view.proofs.RunLaws.{run_behind}

first_of_both : (a b : Bool) → (a && b) ≡ true → a ≡ true
first_of_both true b e = refl
first_of_both false true e = e
first_of_both false false e = e

pub goes_on_next : (span : Span) (first : ℕ) (g : GroupId) → goes_on span first g ≡ true → first ≡ suc span.last
goes_on_next span first g on = equal (first_of_both (nat_eq first (suc span.last)) (same_group span.group g) on)
  where
    equal : nat_eq first (suc span.last) ≡ true → first ≡ suc span.last
    equal e = grind (arith, nat_tests)

wider : (spans : List Span) (column end more : ℕ) → IsFromColumn column end spans → end ≤ more → IsFromColumn column more spans
wider [] column end more fit le = omega arith
wider (span ∷ spans) column end more fit le =
    (fit.0, fit.1, omega (arith, fit.2), wider spans (span.last + 1) end more fit.3 le)

run_fits : (spans : List Span) (column first last end : ℕ) (g : GroupId) → IsFromColumn column first spans → first ≤ last → last < end →
    IsFromColumn column end (with_run spans first last g)
run_fits [] column first last end g fit le lt = (fit, le, lt, omega arith)
run_fits (span ∷ []) column first last end g fit le lt = by_on (goes_on span first g) refl
  where
    by_on : (on : Bool) → goes_on span first g ≡ on → IsFromColumn column end (with_run (span ∷ []) first last g)
    by_on true e =
        subst (λ (ss : List Span). IsFromColumn column end ss) (sym (run_behind span first last g true e))
        (fit.0, omega (arith, fit.1, goes_on_next span first g e), lt, omega arith)
    by_on false e =
        subst (λ (ss : List Span). IsFromColumn column end ss) (sym (run_behind span first last g false e))
        (fit.0, fit.1, omega (arith, fit.2), (fit.3, le, lt, omega arith))
run_fits (span ∷ next ∷ spans) column first last end g fit le lt =
    (fit.0, fit.1, omega (arith, fit.2), run_fits (next ∷ spans) (span.last + 1) first last end g fit.3 le lt)

abbrev pub Fits : SeenLine → Type 0
Fits line = IsFromColumn 0 (length line.chars) line.spans

pub cell_fits : (line : SeenLine) (x : ℕ) (group : Option GroupId) → Fits line → Fits (with_cell line (record { char = x; group = group }))
cell_fits line x None fit = wider line.spans 0 (length line.chars) (length (line.chars ++ x ∷ [])) fit (omega (arith, length-append line.chars (x ∷ [])))
cell_fits line x (Some g) fit =
    run_fits line.spans 0 (length line.chars) (length line.chars) (length (line.chars ++ x ∷ [])) g fit (omega arith)
    (omega (arith, length-append line.chars (x ∷ [])))

pub cells_fit : (line : SeenLine) (cells : List Cell) → Fits line → Fits (with_cells line cells)
cells_fit line [] fit = fit
cells_fit line (cell ∷ cells) fit = cells_fit (with_cell line cell) cells (cell_fits line cell.char cell.group fit)

-- a line that is at a place of the view of lines is seen from them
seen_fits : (blocks : Blocks) (cover : GroupId) (line : List ℕ) (spans : List Span) → Fits (seen_line blocks cover line spans)
seen_fits blocks cover line spans = cells_fit no_characters (seen_from blocks cover None (cells_of line spans)) (omega arith)

fits_there : (line : SeenLine) (chars : List ℕ) (spans : List Span) → Fits line → Some chars ≡ Some line.chars → Some spans ≡ Some line.spans →
    IsFromColumn 0 (length chars) spans
fits_there line chars spans fit e f =
    let same : line.chars ≡ chars = cc in
    let alike : line.spans ≡ spans = cc in
    subst (λ (xs : List ℕ). IsFromColumn 0 (length xs) spans) same (subst (λ (ss : List Span). IsFromColumn 0 (length line.chars) ss) alike fit)

pub view_fits : (blocks : Blocks) (cover : GroupId) (lines : List (List ℕ)) (painting : List (List Span)) →
    FitLines (lines_in (seen_lines blocks cover lines painting)) (spans_in (seen_lines blocks cover lines painting))
view_fits blocks cover [] painting i chars spans e f = cc
view_fits blocks cover (line ∷ lines) [] i chars spans e f = cc
view_fits blocks cover (line ∷ lines) (own ∷ painting) zero chars spans e f =
    fits_there (seen_line blocks cover line own) chars spans (seen_fits blocks cover line own) e f
view_fits blocks cover (line ∷ lines) (own ∷ painting) (suc i) chars spans e f = view_fits blocks cover lines painting i chars spans e f
