-- What is told are exactly the lines that are new or show other spans.
use Rattle.std.proofs.Common.{arith, sym, ap, ◌∙◌, ◌≡◌, ◌<◌, ◌≤◌, ◌+◌, ◌-◌, ◌⊎◌, inl, inr, ℕ, zero, suc, List, [], ◌∷◌, length, refl, get_or, subst, Bool, true, false}
use Rattle.std.specs.Prelude.{slice_index_or, ◌==◌, ◌&&◌, not, Contains, Option, Some, None, if◌then◌else◌, slice_index}
use Rattle.std.specs.List.Sorted.{IsStrictlyIncreasing}
use Rattle.std.proofs.lemmas.Bool.{cases_lt, eq-eqb, eqb-true}
use Rattle.std.proofs.lemmas.List.Elements.{Contains-get_or}
use Rattle.syn_base.specs.declared.places.Span.{Span}
use Rattle.paint_reuse.specs.declared.change.Change.{Change}
use Rattle.paint_reuse.specs.Change.{old_line}
use Rattle.paint_reuse.specs.Report.{IsChanged, IsReport, differs, report, report_from, same_span, same_spans}

-- ---- equal spans

both : (x y : Bool) → (x && y) ≡ true → (x ≡ true) × (y ≡ true)
both true true e = (refl, refl)
both true false e = absurd cc
both false y e = absurd cc

same_span_is : (a b : Span) → same_span a b ≡ true → a ≡ b
same_span_is a b e =
    let outer = both (a.first == b.first) ((a.last == b.last) && (a.group.0 == b.group.0)) e in
    let inner = both (a.last == b.last) (a.group.0 == b.group.0) outer.1 in
    let of : ℕ → ℕ → ℕ → Span = λ f l g. record { first = f; last = l; group = record { 0 = g } } in
    ap (λ (f : ℕ). of f a.last a.group.0) (eqb-true a.first b.first outer.0)
    ∙ ap (λ (l : ℕ). of b.first l a.group.0) (eqb-true a.last b.last inner.0)
    ∙ ap (λ (g : ℕ). of b.first b.last g) (eqb-true a.group.0 b.group.0 inner.1)

same_spans_are : (xs ys : List Span) → same_spans xs ys ≡ true → xs ≡ ys
same_spans_are [] [] e = refl
same_spans_are [] (y ∷ ys) e = absurd cc
same_spans_are (x ∷ xs) [] e = absurd cc
same_spans_are (x ∷ xs) (y ∷ ys) e =
    let b = both (same_span x y) (same_spans xs ys) e in
    ap (λ (z : Span). z ∷ xs) (same_span_is x y b.0) ∙ ap (λ (zs : List Span). y ∷ zs) (same_spans_are xs ys b.1)

pub spans_are_same : (xs : List Span) → same_spans xs xs ≡ true
spans_are_same [] = refl
spans_are_same (x ∷ xs) = rw (eq-eqb x.first x.first refl, eq-eqb x.last x.last refl, eq-eqb x.group.0 x.group.0 refl) (spans_are_same xs)

-- ---- one line

changed_of : (old : List (List Span)) (line : Option ℕ) (spans : List Span) → differs old line spans ≡ true → IsChanged old line spans
changed_of old None spans e = tt {0}
changed_of old (Some j) spans e = λ same. absurd (clash (ap (λ (s : List Span). not (same_spans s (get_or old j []))) same ∙ ap not (spans_are_same (get_or old j []))))
  where
    clash : not (same_spans spans (get_or old j [])) ≡ false → ⊥
    clash f = cc

differs_of : (old : List (List Span)) (line : Option ℕ) (spans : List Span) → IsChanged old line spans → differs old line spans ≡ true
differs_of old None spans changed = refl
differs_of old (Some j) spans changed = by (same_spans spans (get_or old j [])) refl
  where
    by : (b : Bool) → same_spans spans (get_or old j []) ≡ b → not (same_spans spans (get_or old j [])) ≡ true
    by true e = absurd (changed (same_spans_are spans (get_or old j []) e))
    by false e = ap not e

-- ---- what a list has

in_cons : (x : ℕ) (xs : List ℕ) (m : ℕ) → Contains (x ∷ xs) m → (x ≡ m) ⊎ Contains xs m
in_cons x xs m has = by has.0 has.1 has.2
  where
    by : (i : ℕ) → i < length (x ∷ xs) → slice_index_or (x ∷ xs) i m ≡ m → (x ≡ m) ⊎ Contains xs m
    by zero within is = inl is
    by (suc i) within is = inr (i, omega arith, is)

in_tail : (x : ℕ) (xs : List ℕ) (m : ℕ) → Contains xs m → Contains (x ∷ xs) m
in_tail x xs m has = (suc has.0, omega (arith, has.1), has.2)

-- ---- all lines

-- line m, where the lines from k on have these spans
abbrev IsToldFrom : List (List Span) → Change → ℕ → List (List Span) → ℕ → Type 0
IsToldFrom old change k new m = (k ≤ m) × (m < k + length new) × IsChanged old (old_line change m) (get_or new (m - k) [])

later_told : (old : List (List Span)) (change : Change) (k : ℕ) (spans : List Span) (rest : List (List Span)) (m : ℕ) → IsToldFrom old change (suc k) rest m → IsToldFrom old change k (spans ∷ rest) m
later_told old change k spans rest m is =
    let low : suc k ≤ m = is.0 in
    let e : m - k ≡ suc (m - suc k) = omega arith in
    let C : ℕ → Type 0 = λ i. IsChanged old (old_line change m) (get_or (spans ∷ rest) i []) in
    (omega arith, omega (arith, is.1), subst C (sym e) is.2)

told_is : (old : List (List Span)) (change : Change) (k : ℕ) (new : List (List Span)) (m : ℕ) → Contains (report_from old change k new) m → IsToldFrom old change k new m
told_is old change k [] m has = absurd (omega (arith, has.1))
told_is old change k (spans ∷ rest) m has = by (told_is old change (suc k) rest m) (differs old (old_line change k) spans) refl has
  where
    here : differs old (old_line change k) spans ≡ true → k ≡ m → IsToldFrom old change k (spans ∷ rest) m
    here e same =
        let zero_is : m - k ≡ 0 = omega arith in
        let C : ℕ → Type 0 = λ i. IsChanged old (old_line change m) (get_or (spans ∷ rest) i []) in
        let M : ℕ → Type 0 = λ j. IsChanged old (old_line change j) spans in
        (omega arith, omega arith, subst C (sym zero_is) (subst M same (changed_of old (old_line change k) spans e)))

    told : (Contains (report_from old change (suc k) rest) m → IsToldFrom old change (suc k) rest m) → differs old (old_line change k) spans ≡ true → (k ≡ m) ⊎ Contains (report_from old change (suc k) rest) m → IsToldFrom old change k (spans ∷ rest) m
    told behind e (inl same) = here e same
    told behind e (inr has) = later_told old change k spans rest m (behind has)

    by : (Contains (report_from old change (suc k) rest) m → IsToldFrom old change (suc k) rest m) → (b : Bool) → differs old (old_line change k) spans ≡ b → Contains (if b then k ∷ report_from old change (suc k) rest else report_from old change (suc k) rest) m → IsToldFrom old change k (spans ∷ rest) m
    by behind true e has = told behind e (in_cons k (report_from old change (suc k) rest) m has)
    by behind false e has = later_told old change k spans rest m (behind has)

is_told : (old : List (List Span)) (change : Change) (k : ℕ) (new : List (List Span)) (m : ℕ) → IsToldFrom old change k new m → Contains (report_from old change k new) m
is_told old change k [] m is = absurd (omega (arith, is.0, is.1))
is_told old change k (spans ∷ rest) m is = by (is_told old change (suc k) rest m) (cases_lt k m)
  where
    behind : (b : Bool) → Contains (report_from old change (suc k) rest) m → Contains (if b then k ∷ report_from old change (suc k) rest else report_from old change (suc k) rest) m
    behind true has = in_tail k (report_from old change (suc k) rest) m has
    behind false has = has

    here : (b : Bool) → b ≡ true → k ≡ m → Contains (if b then k ∷ report_from old change (suc k) rest else report_from old change (suc k) rest) m
    here true e same = (0, omega arith, same)
    here false e same = absurd cc

    by : (IsToldFrom old change (suc k) rest m → Contains (report_from old change (suc k) rest) m) → (k < m) ⊎ (m ≤ k) → Contains (if differs old (old_line change k) spans then k ∷ report_from old change (suc k) rest else report_from old change (suc k) rest) m
    by later (inl low) =
        let e : m - k ≡ suc (m - suc k) = omega arith in
        let C : ℕ → Type 0 = λ i. IsChanged old (old_line change m) (get_or (spans ∷ rest) i []) in
        behind (differs old (old_line change k) spans) (later (omega arith, omega (arith, is.1), subst C e is.2))
    by later (inr high) =
        let same : k ≡ m = omega (arith, is.0) in
        let e : m - k ≡ 0 = omega arith in
        let C : ℕ → Type 0 = λ i. IsChanged old (old_line change m) (get_or (spans ∷ rest) i []) in
        let M : ℕ → Type 0 = λ j. IsChanged old (old_line change j) spans in
        here (differs old (old_line change k) spans) (differs_of old (old_line change k) spans (subst M (sym same) (subst C e is.2))) same

-- ---- in order

ascending_cons : (x : ℕ) (xs : List ℕ) → (0 < length xs → x < slice_index xs 0) → IsStrictlyIncreasing xs → IsStrictlyIncreasing (x ∷ xs)
ascending_cons x xs first rest zero within = first (omega arith)
ascending_cons x xs first rest (suc i) within =
    let e : suc i + 1 ≡ suc (i + 1) = omega arith in
    let P : ℕ → Type 0 = λ n. slice_index xs i < slice_index (x ∷ xs) n in
    subst P (sym e) (rest i (omega arith))

ascending : (old : List (List Span)) (change : Change) (k : ℕ) (new : List (List Span)) → IsStrictlyIncreasing (report_from old change k new)
ascending old change k [] = λ i within. absurd (omega arith)
ascending old change k (spans ∷ rest) = by (ascending old change (suc k) rest) (differs old (old_line change k) spans)
  where
    first : 0 < length (report_from old change (suc k) rest) → k < slice_index (report_from old change (suc k) rest) 0
    first some =
        let told = report_from old change (suc k) rest in
        omega (arith, (told_is old change (suc k) rest (slice_index told 0) (Contains-get_or told 0 0 some)).0)

    by : IsStrictlyIncreasing (report_from old change (suc k) rest) → (b : Bool) → IsStrictlyIncreasing (if b then k ∷ report_from old change (suc k) rest else report_from old change (suc k) rest)
    by later true = ascending_cons k (report_from old change (suc k) rest) first later
    by later false = later

pub report_is : (old new : List (List Span)) (change : Change) → IsReport old new change (report old new change)
report_is old new change = record {
  ascending = ascending old change 0 new;
  exact = λ m. (to m, from m);
}
  where
    same : (m : ℕ) → m - 0 ≡ m
    same m = omega arith

    to : (m : ℕ) → Contains (report old new change) m → (m < length new) × IsChanged old (old_line change m) (get_or new m [])
    to m has =
        let is = told_is old change 0 new m has in
        let C : ℕ → Type 0 = λ i. IsChanged old (old_line change m) (get_or new i []) in
        (omega (arith, is.1), subst C (same m) is.2)

    from : (m : ℕ) → (m < length new) × IsChanged old (old_line change m) (get_or new m []) → Contains (report old new change) m
    from m is =
        let C : ℕ → Type 0 = λ i. IsChanged old (old_line change m) (get_or new i []) in
        is_told old change 0 new m (omega arith, omega (arith, is.0), subst C (sym (same m)) is.1)
