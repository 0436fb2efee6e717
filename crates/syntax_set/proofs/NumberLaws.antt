-- Lemmas on lists of numbers, each once.
use Rattle.std.proofs.Common.{◌≡◌, ℕ, ◌+◌, ◌≤◌, arith, Bool, true, false, cond, ◌||◌, List, [], ◌∷◌, ◌++◌, length, take, drop, length-append, append_assoc, refl, sym, ◌∙◌, ap, subst, inl, inr}
use Rattle.std.proofs.lemmas.List.{append-nil, take-append-drop}
use Rattle.std.proofs.Math.Seq.{take-append_seam}
use Rattle.std.proofs.lemmas.List.Sums.{fold-append}
use Rattle.std.proofs.lemmas.Bool.{eqb-true}
use Rattle.std.proofs.lemmas.List.Folds.{list_any-append}
use Rattle.std.specs.Prelude.{nat_eq}
use Rattle.syntax_set.specs.Numbers.{has_number, with_number, with_numbers}
use Rattle.syntax_set.proofs.Passing.{same_bool, or_left, or_cases, or_assoc, or_false}

pub has_number-with_number : (ns : List ℕ) (n k : ℕ) → has_number (with_number ns n) k ≡ (has_number ns k || nat_eq k n)
has_number-with_number ns n k = by (has_number ns n) refl
  where
    there : has_number ns n ≡ true → (has_number ns k || nat_eq k n) ≡ true → has_number ns k ≡ true
    there known either =
        let P : ℕ → Type 0 = λ j. has_number ns j ≡ true in
        elim (or_cases (has_number ns k) (nat_eq k n) either) [ inl old ↦ old | inr same ↦ subst P (sym (eqb-true k n same)) known ]

    by : (b : Bool) → has_number ns n ≡ b → has_number (cond b ns (ns ++ n ∷ [])) k ≡ (has_number ns k || nat_eq k n)
    by true known = same_bool (has_number ns k) (has_number ns k || nat_eq k n) (or_left (has_number ns k) (nat_eq k n)) (there known)
    by false new = list_any-append (nat_eq k) ns (n ∷ []) ∙ ap (λ b. has_number ns k || b) (or_false (nat_eq k n))

pub has_number-with_numbers : (ns more : List ℕ) (k : ℕ) → has_number (with_numbers ns more) k ≡ (has_number ns k || has_number more k)
has_number-with_numbers ns [] k = sym (or_false (has_number ns k))
has_number-with_numbers ns (n ∷ more) k =
    has_number-with_numbers (with_number ns n) more k
    ∙ ap (λ b. b || has_number more k) (has_number-with_number ns n k)
    ∙ or_assoc (has_number ns k) (nat_eq k n) (has_number more k)

-- a list that begins with another
pub record Extends (xs ys : List ℕ) : Type 0 where
  pub rest : List ℕ
  pub whole : ys ≡ xs ++ rest

pub with_number-extends : (ns : List ℕ) (n : ℕ) → Extends ns (with_number ns n)
with_number-extends ns n = by (has_number ns n)
  where
    by : (b : Bool) → Extends ns (cond b ns (ns ++ n ∷ []))
    by true = record { rest = []; whole = sym (append-nil ns) }
    by false = record { rest = n ∷ []; whole = refl }

pub extends_further : (xs ys zs : List ℕ) → Extends xs ys → Extends ys zs → Extends xs zs
extends_further xs ys zs first then = record {
  rest = first.rest ++ then.rest;
  whole = then.whole ∙ ap (λ l. l ++ then.rest) first.whole ∙ append_assoc xs first.rest then.rest;
}

pub with_numbers-extends : (ns more : List ℕ) → Extends ns (with_numbers ns more)
with_numbers-extends ns [] = record { rest = []; whole = sym (append-nil ns) }
with_numbers-extends ns (n ∷ more) =
    extends_further ns (with_number ns n) (with_numbers (with_number ns n) more)
    (with_number-extends ns n) (with_numbers-extends (with_number ns n) more)

-- a list begins with its front
pub takes_front : (front list : List ℕ) → Extends front list → take (length front) list ≡ front
takes_front front list e = ap (take (length front)) e.whole ∙ take-append_seam front e.rest

length-with_number : (ns : List ℕ) (n : ℕ) → length (with_number ns n) ≤ length ns + 1
length-with_number ns n = by (has_number ns n)
  where
    by : (b : Bool) → length (cond b ns (ns ++ n ∷ [])) ≤ length ns + 1
    by true = omega arith
    by false = omega (arith, length-append ns (n ∷ []))

length-with_numbers : (ns more : List ℕ) → length (with_numbers ns more) ≤ length ns + length more
length-with_numbers ns [] = omega arith
length-with_numbers ns (n ∷ more) = omega (arith, length-with_numbers (with_number ns n) more, length-with_number ns n)

-- the first of numbers that stand once each stand once each
pub each_once-take : (ns : List ℕ) (k : ℕ) → with_numbers [] ns ≡ ns → with_numbers [] (take k ns) ≡ take k ns
each_once-take ns k once =
    let front = take k ns in
    let kept = with_numbers [] front in
    let parts : front ++ drop k ns ≡ ns = take-append-drop k ns in
    let joined : with_numbers kept (drop k ns) ≡ ns = sym (fold-append with_number [] front (drop k ns)) ∙ ap (with_numbers []) parts ∙ once in
    let as_long : length kept ≡ length front =
    omega (arith, length-with_numbers [] front, length-with_numbers kept (drop k ns), ap length joined, ap length parts, length-append front (drop k ns)) in
    sym (takes_front kept (with_numbers kept (drop k ns)) (with_numbers-extends kept (drop k ns)))
    ∙ ap (take (length kept)) joined
    ∙ ap (λ n. take n ns) as_long
    ∙ ap (take (length front)) (sym parts)
    ∙ take-append_seam front (drop k ns)

-- numbers that stand once each stay so with one more
pub each_once-with_number : (ns : List ℕ) (n : ℕ) → with_numbers [] ns ≡ ns → with_numbers [] (with_number ns n) ≡ with_number ns n
each_once-with_number ns n once = by (has_number ns n) refl
  where
    by : (b : Bool) → has_number ns n ≡ b → with_numbers [] (cond b ns (ns ++ n ∷ [])) ≡ cond b ns (ns ++ n ∷ [])
    by true there = once
    by false new =
        fold-append with_number [] ns (n ∷ [])
        ∙ ap (λ l. with_number l n) once
        ∙ ap (λ b. cond b ns (ns ++ n ∷ [])) new
