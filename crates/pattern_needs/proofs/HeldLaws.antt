-- Laws of some characters.
use Rattle.std.proofs.Common.{◌≡◌, ◌∙◌, refl, sym, ap, arith, ℕ, zero, suc, ◌<◌, ◌/◌, ◌%◌, ◌^◌, ◌-◌, Bool, true, false, eqb, List, [], ◌∷◌, get_or, max, ◌||◌, bit_and, bit_or}
use Rattle.std.specs.Prelude.{nat_lt, nat_le, if◌then◌else◌}
use Rattle.std.specs.Int.{bit_at}
use Rattle.std.proofs.lemmas.Bool.{eqb-true}
use Rattle.std.proofs.lemmas.Bool.Decides.{nat_tests}
use Rattle.std.proofs.lemmas.Nat.Bits.{bit_at-zero, bit_at-lt, bit_at_and, bit_at_ones, bit_at_or}
use Rattle.char_class.specs.Bits.{has_bit}
use Rattle.char_class.proofs.CodeLaws.{no_code}

-- the code of a place and a bit of four words
abbrev is_bit : List ℕ → ℕ → Bool
is_bit words c = eqb (bit_at (get_or words (c / 64) 0) (c % 64)) 1

bits : (words : List ℕ) (c : ℕ) → has_bit words c ≡ is_bit words c
unfolding has_bit
bits words c = refl

-- one of four
four : (k : ℕ) → k < 4 → (P : ℕ → Type 0) → P 0 → P 1 → P 2 → P 3 → P k
four zero h P a b c d = a
four (suc zero) h P a b c d = b
four (suc (suc zero)) h P a b c d = c
four (suc (suc (suc zero))) h P a b c d = d
four (suc (suc (suc (suc k)))) h P a b c d = absurd (omega arith)

either_bit : (m n : ℕ) → m < 2 → n < 2 → eqb (max m n) 1 ≡ (eqb m 1 || eqb n 1)
either_bit zero zero h i = refl
either_bit zero (suc zero) h i = refl
either_bit (suc zero) zero h i = refl
either_bit (suc zero) (suc zero) h i = refl
either_bit (suc (suc m)) n h i = absurd (omega arith)
either_bit m (suc (suc n)) h i = absurd (omega arith)

isnt_one : (m : ℕ) → m < 2 → m ≡ 0 → eqb m 1 ≡ false
isnt_one zero h e = refl
isnt_one (suc m) h e = absurd (omega arith)

abbrev or_of : List ℕ → List ℕ → ℕ → ℕ
or_of a b k = bit_or (get_or a k 0) (get_or b k 0)

abbrev and_of : List ℕ → List ℕ → ℕ → ℕ
and_of a b k = bit_and (get_or a k 0) (get_or b k 0)

place_below : (c : ℕ) → c < 256 → c / 64 < 4
place_below c h = omega arith

-- the words of both
pub has_bit-or : (a b : List ℕ) (c : ℕ) → c < 256 → has_bit (or_of a b 0 ∷ or_of a b 1 ∷ or_of a b 2 ∷ or_of a b 3 ∷ []) c ≡ (has_bit a c || has_bit b c)
has_bit-or a b c h =
    let all : List ℕ = or_of a b 0 ∷ or_of a b 1 ∷ or_of a b 2 ∷ or_of a b 3 ∷ [] in
    let here : get_or all (c / 64) 0 ≡ or_of a b (c / 64) = four (c / 64) (place_below c h) (λ k. get_or all k 0 ≡ or_of a b k) refl refl refl refl in
    bits all c
    ∙ (ap (λ w. eqb (bit_at w (c % 64)) 1) here
    ∙ (ap (λ n. eqb n 1) (bit_at_or (get_or a (c / 64) 0) (get_or b (c / 64) 0) (c % 64))
    ∙ (either_bit (bit_at (get_or a (c / 64) 0) (c % 64)) (bit_at (get_or b (c / 64) 0) (c % 64)) (bit_at-lt _ _) (bit_at-lt _ _)
    ∙ sym (ap (λ x. x || has_bit b c) (bits a c) ∙ ap (λ y. is_bit a c || y) (bits b c)))))

abbrev common : List ℕ → List ℕ → ℕ
common a b = bit_or (bit_or (bit_or (and_of a b 0) (and_of a b 1)) (and_of a b 2)) (and_of a b 3)

-- where no word has a bit in common, no code is in both
pub has_bit-apart : (a b : List ℕ) (c : ℕ) → common a b ≡ 0 → c < 256 → has_bit a c ≡ true → has_bit b c ≡ false
has_bit-apart a b c none h has =
    let i = c % 64 in
    let bit : ℕ → ℕ = λ k. bit_at (and_of a b k) i in
    let last = bit_at_or (bit_or (bit_or (and_of a b 0) (and_of a b 1)) (and_of a b 2)) (and_of a b 3) i in
    let third = bit_at_or (bit_or (and_of a b 0) (and_of a b 1)) (and_of a b 2) i in
    let second = bit_at_or (and_of a b 0) (and_of a b 1) i in
    let zeros = ap (λ w. bit_at w i) none ∙ bit_at-zero i in
    let apart : bit (c / 64) ≡ 0 =
    four (c / 64) (place_below c h) (λ k. bit k ≡ 0) (omega (arith, last, third, second, zeros)) (omega (arith, last, third, second, zeros)) (omega (arith, last, third, second, zeros)) (omega (arith, last, third, second, zeros)) in
    let one : bit_at (get_or a (c / 64) 0) i ≡ 1 = eqb-true _ _ (sym (bits a c) ∙ has) in
    let both = bit_at_and (get_or a (c / 64) 0) (get_or b (c / 64) 0) i in
    let under = bit_at-lt (get_or b (c / 64) 0) i in
    bits b c ∙ isnt_one (bit_at (get_or b (c / 64) 0) i) under (omega (arith, both, one, apart, under))

abbrev zeros : List ℕ
zeros = 0 ∷ 0 ∷ 0 ∷ 0 ∷ []

-- no code is in empty words
pub none_held : (c : ℕ) → (if nat_lt c 256 then has_bit zeros c else false) ≡ false
none_held c = elim (nat_lt c 256) as (λ b. (if b then has_bit zeros c else false) ≡ false) [ true ↦ no_code c | false ↦ refl ]

pub others_held : (c : ℕ) → (if nat_lt c 256 then has_bit zeros c else true) ≡ nat_le 256 c
others_held c = by (nat_lt c 256) refl
  where
    by : (b : Bool) → nat_lt c 256 ≡ b → (if b then has_bit zeros c else true) ≡ nat_le 256 c
    by true e = no_code c ∙ grind (arith, nat_tests, e)
    by false e = grind (arith, nat_tests, e)

-- each code is in full words
abbrev full : ℕ
full = 18446744073709551615

abbrev ones : List ℕ
ones = full ∷ full ∷ full ∷ full ∷ []

all_bits : (c : ℕ) → c < 256 → has_bit ones c ≡ true
all_bits c h =
    let here : get_or ones (c / 64) 0 ≡ 2 ^ 64 - 1 = four (c / 64) (place_below c h) (λ k. get_or ones k 0 ≡ 2 ^ 64 - 1) refl refl refl refl in
    let under : c % 64 < 64 = omega arith in
    bits ones c ∙ (ap (λ w. eqb (bit_at w (c % 64)) 1) here ∙ ap (λ n. eqb n 1) (bit_at_ones 64 (c % 64) under))

pub all_held : (c : ℕ) → (if nat_lt c 256 then has_bit ones c else true) ≡ true
all_held c = by (nat_lt c 256) refl
  where
    by : (b : Bool) → nat_lt c 256 ≡ b → (if b then has_bit ones c else true) ≡ true
    by true e = all_bits c (grind (arith, nat_tests, e))
    by false e = refl
