-- The span lines of a text, line by line.
use Rattle.std.proofs.Common.{◌≡◌, ℕ, zero, suc, ◌+◌, ◌<◌, ◌≤◌, List, [], ◌∷◌, ◌++◌, length, drop, get_or, refl, ap, sym, ◌∙◌, arith}
use Rattle.std.specs.Prelude.{Some, false, slice_get}
use Rattle.std.proofs.lemmas.List.{append-nil, append_assoc}
use Rattle.std.proofs.lemmas.Option.{get_or_from_slice_get}
use Rattle.syn_base.specs.declared.places.Span.{Span}
use Rattle.syn_base.specs.SpansFit.{FitLines, IsFromColumn}
use Rattle.hi_links.specs.declared.highlight.Highlight.{Highlight}
use Rattle.span_print.specs.SpanText.{line_text}
use Rattle.vimsyn_cli.specs.Printing.{spans_from}

next_line : (painting : List (List Span)) (number : ℕ) → number < length painting → drop number painting ≡ get_or painting number [] ∷ drop (suc number) painting
next_line [] number within = absurd (omega arith)
next_line (spans ∷ painting) zero within = refl
next_line (spans ∷ painting) (suc number) within = next_line painting number (omega arith)

-- one line more was printed
pub printed_further : (names : List (List ℕ)) (links : List Highlight) (painting : List (List Span)) (number next : ℕ) (before after whole : List ℕ) → next ≡ suc number → number < length painting → after ≡ before ++ line_text names links number (get_or painting number []) false → before ++ spans_from names links number (drop number painting) ≡ whole → after ++ spans_from names links next (drop next painting) ≡ whole
printed_further names links painting number next before after whole follows within printed so_far =
    let own = line_text names links number (get_or painting number []) false in
    let rest = spans_from names links (suc number) (drop (suc number) painting) in
    let split : spans_from names links number (drop number painting) ≡ own ++ rest = ap (spans_from names links number) (next_line painting number within) in
    rw (printed, follows, append_assoc before own rest) (ap (λ (text : List ℕ). before ++ text) (sym split) ∙ so_far)

-- all lines were printed
drop_past : (painting : List (List Span)) (number : ℕ) → length painting ≤ number → drop number painting ≡ []
drop_past [] zero past = refl
drop_past [] (suc number) past = refl
drop_past (spans ∷ painting) zero past = absurd (omega arith)
drop_past (spans ∷ painting) (suc number) past = drop_past painting number (omega arith)

pub all_printed : (names : List (List ℕ)) (links : List Highlight) (painting : List (List Span)) (number : ℕ) (out whole : List ℕ) → length painting ≤ number → out ++ spans_from names links number (drop number painting) ≡ whole → out ≡ whole
all_printed names links painting number out whole past so_far =
    sym (append-nil out)
    ∙ ap (λ (rest : List (List Span)). out ++ spans_from names links number rest) (sym (drop_past painting number past))
    ∙ so_far

-- the columns of spans lie in their line
fits_at : (column end : ℕ) (spans : List Span) (k : ℕ) (d : Span) → IsFromColumn column end spans → k < length spans → ((get_or spans k d).first < end) × ((get_or spans k d).last < end)
fits_at column end [] k d fit near = absurd (omega arith)
fits_at column end (s ∷ spans) zero d fit near = (omega (arith, fit.1, fit.2), fit.2)
fits_at column end (s ∷ spans) (suc k) d fit near = fits_at (s.last + 1) end spans k d fit.3 (omega arith)

pub columns_few : (lines : List (List ℕ)) (painting : List (List Span)) (number columns most : ℕ) (line : List ℕ) (spans : List Span) → FitLines lines painting → Some line ≡ slice_get lines number → Some spans ≡ slice_get painting number → columns ≡ length line → columns < most → (k : ℕ) (d : Span) → k < length spans → ((get_or spans k d).first < most) × ((get_or spans k d).last < most)
columns_few lines painting number columns most line spans fit line_is spans_are long few k d near =
    let at = fits_at 0 (length line) spans k d (fit number line spans line_is spans_are) near in
    (omega (arith, at.0, long, few), omega (arith, at.1, long, few))

-- the spans of a line
pub spans_there : (painting : List (List Span)) (number : ℕ) (spans : List Span) → Some spans ≡ slice_get painting number → spans ≡ get_or painting number []
spans_there painting number spans is = sym (get_or_from_slice_get painting number spans [] (sym is))
