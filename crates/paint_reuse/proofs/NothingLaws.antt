-- A change that replaces nothing by nothing.
use Rattle.std.proofs.Common.{arith, ap, sym, refl, ◌∙◌, ◌≡◌, ℕ, zero, suc, List, [], ◌∷◌, ◌++◌, take, drop, get_or, length, true, Some, Bool, not, if◌then◌else◌}
use Rattle.std.specs.Prelude.{Option, ◌==◌}
use Rattle.std.proofs.lemmas.Bool.{eqb-true}
use Rattle.std.proofs.lemmas.Bool.Decides.{nat_tests}
use Rattle.std.proofs.lemmas.List.{append-nil, take-append-drop}
use Rattle.syn_base.specs.declared.places.Span.{Span}
use Rattle.paint_reuse.specs.declared.change.Change.{Change}
use Rattle.paint_reuse.specs.Change.{old_line, replaced}
use Rattle.paint_reuse.specs.Report.{differs, report, report_from, same_spans}
use Rattle.paint_reuse.proofs.ReportIs.{spans_are_same}

pub nothing_replaced : (t : List (List ℕ)) (a : ℕ) → replaced t a a [] ≡ t
nothing_replaced t a = ap (λ (l : List (List ℕ)). l ++ drop a t) (append-nil (take a t)) ∙ take-append-drop a t

first_dropped : (xs : List (List Span)) (k : ℕ) (x : List Span) (rest : List (List Span)) → drop k xs ≡ x ∷ rest → (get_or xs k [] ≡ x) × (drop (suc k) xs ≡ rest)
first_dropped [] zero x rest e = absurd cc
first_dropped [] (suc k) x rest e = absurd cc
first_dropped (y ∷ xs) zero x rest e = (cc, cc)
first_dropped (y ∷ xs) (suc k) x rest e = first_dropped xs k x rest e

none_from : (old : List (List Span)) (change : Change) → ((k : ℕ) → old_line change k ≡ Some k) → (k : ℕ) (rest : List (List Span)) → drop k old ≡ rest → report_from old change k rest ≡ []
none_from old change stays k [] e = refl
none_from old change stays k (x ∷ rest) e =
    let here = first_dropped old k x rest e in
    let later = report_from old change (suc k) rest in
    let same : differs old (old_line change k) x ≡ not (same_spans x x) =
    ap (λ (o : Option ℕ). differs old o x) (stays k) ∙ ap (λ (y : List Span). not (same_spans x y)) here.0 in
    ap (λ (b : Bool). if b then k ∷ later else later) (same ∙ ap not (spans_are_same x)) ∙ none_from old change stays (suc k) rest here.1

stays_all : (a k : ℕ) → old_line (record { a = a; b = a; count = 0 }) k ≡ Some k
stays_all a k = grind (arith, nat_tests)

pub nothing_told : (old : List (List Span)) (a : ℕ) → report old old (record { a = a; b = a; count = 0 }) ≡ []
nothing_told old a = none_from old (record { a = a; b = a; count = 0 }) (stays_all a) 0 old refl

no_lines : (new : List (List ℕ)) → true ≡ (length new == 0) → new ≡ []
no_lines [] e = refl
no_lines (x ∷ new) e = absurd (omega (arith, eqb-true (length (x ∷ new)) 0 (sym e)))

-- where no line gives way and none comes, the text is as it was
pub no_change : (t : List (List ℕ)) (a b : ℕ) (new : List (List ℕ)) → a ≡ b → true ≡ (length new == 0) → replaced t a b new ≡ t
no_change t a b new same none = ap (replaced t a b) (no_lines new none) ∙ ap (λ (n : ℕ). replaced t a n []) (sym same) ∙ nothing_replaced t a

pub no_report : (old : List (List Span)) (a b : ℕ) (new : List (List ℕ)) → a ≡ b → true ≡ (length new == 0) → report old old (record { a = a; b = b; count = length new }) ≡ []
no_report old a b new same none =
    ap (λ (l : List (List ℕ)). report old old (record { a = a; b = b; count = length l })) (no_lines new none)
    ∙ ap (λ (n : ℕ). report old old (record { a = a; b = n; count = 0 })) (sym same) ∙ nothing_told old a
