-- The numbers of keys.
use Rattle.pattern_screens.proofs.Common.{◌≡◌, ℕ, ◌+◌, ◌*◌, ◌/◌, ◌%◌, ◌<◌, inl, inr, List, [], ◌∷◌, ◌++◌, length, get_or, refl, sym, ap, ◌∙◌, subst, arith, add-one, length-append, None, slice_get, cases_eq, Sets, AreNumbers, is_keyword, key_of, last_in, last_of, next_of, next_numbered, last_numbered, key_numbered}
use Rattle.std.proofs.lemmas.Grind.{common_steps}
use Rattle.pattern_screens.specs.declared.key.Next.TheVariants as next
use Rattle.pattern_screens.proofs.StillAtoms.{keyword-key}

pub key-of-parts : (last next : ℕ) → next < 259 → key_numbered (last * 259 + next) ≡ record { next = next_numbered next; last = last_numbered last }
key-of-parts last next h =
    let first : (last * 259 + next) % 259 ≡ next = omega arith in
    let second : (last * 259 + next) / 259 ≡ last = omega arith in
    λ i. record { next = next_numbered (first i); last = last_numbered (second i) }

pub ruleset numbers = (key-of-parts)

-- ---- a line's keys, one by one

at-end : (numbers : List ℕ) (n : ℕ) → get_or (numbers ++ n ∷ []) (length numbers) 0 ≡ n
at-end numbers n = grind (arith, common_steps)

before-end : (numbers : List ℕ) (n k : ℕ) → k < length numbers → get_or (numbers ++ n ∷ []) k 0 ≡ get_or numbers k 0
before-end numbers n k h = grind (arith, common_steps)

pub one-more-number : (sets : Sets) (line : List ℕ) (count : ℕ) (numbers : List ℕ) (n : ℕ) → AreNumbers sets line count numbers → n < 777 → key_numbered n ≡ key_of sets line count →
    AreNumbers sets line (count + 1) (numbers ++ n ∷ [])
one-more-number sets line count numbers n h below is =
    let last : get_or (numbers ++ n ∷ []) count 0 ≡ n = subst (λ k. get_or (numbers ++ n ∷ []) k 0 ≡ n) h.many (at-end numbers n) in
    let same : (k : ℕ) → k < count → get_or (numbers ++ n ∷ []) k 0 ≡ get_or numbers k 0 = λ k less. before-end numbers n k (omega (arith, h.many)) in
    record {
      many = omega (arith, h.many, length-append numbers (n ∷ []));
      below = λ k less. elim (cases_eq k count) [
        | inr other ↦ (let before : k < count = omega arith in omega (arith, same k before, h.below k before))
        | inl here ↦ omega (arith, last, subst (λ j. get_or (numbers ++ n ∷ []) j 0 ≡ n) (sym here) last)
      ];
      are = λ k less. elim (cases_eq k count) [
        | inr other ↦ (let before : k < count = omega arith in ap key_numbered (same k before) ∙ h.are k before)
        | inl here ↦ subst (λ j. key_numbered (get_or (numbers ++ n ∷ []) j 0) ≡ key_of sets line j) (sym here) (ap key_numbered last ∙ is)
      ];
    }

-- what stands before the next column
pub last-after : (sets : Sets) (line : List ℕ) (col : ℕ) → last_in sets line (col + 1) ≡ last_of (is_keyword sets (next_of sets (slice_get line col)))
last-after sets line col = rw add-one (ap last_of (keyword-key sets (slice_get line col)))

none-at-end : (line : List ℕ) → slice_get line (length line) ≡ None
none-at-end [] = refl
none-at-end (c ∷ line) = none-at-end line

pub end-key : (sets : Sets) (line : List ℕ) → next_of sets (slice_get line (length line)) ≡ next.LineEnd
end-key sets line = ap (next_of sets) (none-at-end line)
