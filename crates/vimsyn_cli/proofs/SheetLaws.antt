-- The lines that an edit tells are lines of the changed text.
use Rattle.std.proofs.Common.{◌≡◌, ℕ, suc, ◌+◌, ◌<◌, Bool, true, false, cond, List, [], ◌∷◌, length, sym, subst, arith}
use Rattle.std.specs.Prelude.{All}
use Rattle.std.specs.List.{AllByRecursion}
use Rattle.std.proofs.lemmas.List.Elements.{All-from_recursion}
use Rattle.syn_base.specs.declared.places.Span.{Span}
use Rattle.paint_reuse.specs.Change.{old_line}
use Rattle.paint_reuse.specs.Report.{differs, report, report_from}

below_same : (n m : ℕ) (lines : List ℕ) → n ≡ m → AllByRecursion (λ k. k < n) lines → AllByRecursion (λ k. k < m) lines
below_same n m lines same all = let P : ℕ → Type 0 = λ b. AllByRecursion (λ k. k < b) lines in subst P same all

one_more : (tells : Bool) (k n : ℕ) (later : List ℕ) → k < n → AllByRecursion (λ j. j < n) later → AllByRecursion (λ j. j < n) (cond tells (k ∷ later) later)
one_more true k n later below all = (below, all)
one_more false k n later below all = all

-- of lines from k on
told_below : (old : List (List Span)) (a b count k : ℕ) (spans : List (List Span)) → AllByRecursion (λ j. j < k + length spans) (report_from old (record { a = a; b = b; count = count }) k spans)
told_below old a b count k [] = tt
told_below old a b count k (spans ∷ rest) =
    let same : suc k + length rest ≡ k + suc (length rest) = omega arith in
    let below : k < k + suc (length rest) = omega arith in
    let later = below_same (suc k + length rest) (k + suc (length rest)) (report_from old (record { a = a; b = b; count = count }) (suc k) rest) same (told_below old a b count (suc k) rest) in
    one_more (differs old (old_line (record { a = a; b = b; count = count }) k) spans) k (k + suc (length rest)) (report_from old (record { a = a; b = b; count = count }) (suc k) rest) below later

pub told_within : (old new : List (List Span)) (a b count : ℕ) (lines : List ℕ) (all : ℕ) → lines ≡ report old new (record { a = a; b = b; count = count }) → length new ≡ all → All (λ n. n < all) lines
told_within old new a b count lines all is size =
    let told = report old new (record { a = a; b = b; count = count }) in
    let whole : 0 + length new ≡ all = omega (arith, size) in
    let P : List ℕ → Type 0 = λ l. All (λ n. n < all) l in
    subst P (sym is) (All-from_recursion (λ n. n < all) told (below_same (0 + length new) all told whole (told_below old a b count 0 new)))
