-- The first place from one on at which a bit of a word is set.
use Rattle.std.proofs.Common.{◌≡◌, ℕ, ◌+◌, ◌-◌, ◌/◌, ◌%◌, ◌^◌, ◌<◌, ◌≤◌, arith, true, false, sym, ◌∙◌, ap, inl, inr, ◌⊎◌}
use Rattle.std.proofs.Math.Nat.{div-div-eq-div-mul, div-le_self}
use Rattle.std.proofs.lemmas.Nat.{pow-add}
use Rattle.std.proofs.lemmas.Nat.Bits.{bit_at-zero, bit_at-trailing_zeros, bit_at_above}
use Rattle.std.specs.Int.{bit_at, trailing_zeros}
use Rattle.std.specs.Prelude.{nat_eq}
use Rattle.std.specs.Int.{w128}
use Rattle.syntax_set.specs.Reached.{has_bit}

module _ (word from : ℕ) where
  -- the bits from a place on
  abbrev pub left : ℕ
  left = word / 2 ^ from

  bits_from : (i : ℕ) → bit_at left i ≡ bit_at word (from + i)
  bits_from i = ap (λ n. n % 2) (div-div-eq-div-mul word (2 ^ from) (2 ^ i) ∙ ap (λ n. word / n) (sym (pow-add 2 from i)))

  shifted : (i : ℕ) → from ≤ i → bit_at word i ≡ bit_at left (i - from)
  shifted i after =
      let e : from + (i - from) ≡ i = omega arith in
      sym (bits_from (i - from) ∙ ap (λ n. bit_at word n) e)

  pub none-left : left ≡ 0 → (i : ℕ) → from ≤ i → has_bit word i ≡ false
  none-left e i after = ap (λ n. nat_eq n 1) (shifted i after ∙ ap (λ n. bit_at n (i - from)) e ∙ bit_at-zero (i - from))

  module _ (fits : word < 2 ^ 128) (some : 0 < left) where
    left_fits : left < 2 ^ 128
    left_fits = let less = div-le_self word (2 ^ from) in omega (arith, less, fits)

    abbrev pub first : ℕ
    first = from + trailing_zeros w128 left

    pub first-set : has_bit word first ≡ true
    first-set = ap (λ n. nat_eq n 1) (sym (bits_from (trailing_zeros w128 left)) ∙ (bit_at-trailing_zeros w128 left some left_fits).1)

    pub first-within : first < 128
    first-within = by (either first 128)
      where
        either : (a b : ℕ) → (a < b) ⊎ (b ≤ a)
        either a b = grind arith

        by : (first < 128) ⊎ (128 ≤ first) → first < 128
        by (inl within) = within
        by (inr past) =
            let one : bit_at word first ≡ 1 = sym (bits_from (trailing_zeros w128 left)) ∙ (bit_at-trailing_zeros w128 left some left_fits).1 in
            let zero : bit_at word first ≡ 0 = bit_at_above word 128 first fits past in
            absurd (let e : 1 ≡ 0 = sym one ∙ zero in omega (arith, e))

    pub none-before : (i : ℕ) → from ≤ i → i < first → has_bit word i ≡ false
    none-before i after before =
        ap (λ n. nat_eq n 1) (shifted i after ∙ (bit_at-trailing_zeros w128 left some left_fits).2 (i - from) (omega (arith, before, after)))
