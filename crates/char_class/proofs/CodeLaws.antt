-- Laws of sets of the characters below 256.
use Rattle.std.proofs.Common.{◌≡◌, ℕ, zero, suc, ◌/◌, ◌%◌, false, eqb, [], ◌∷◌, refl, ap, ◌∙◌}
use Rattle.std.specs.Prelude.{slice_index}
use Rattle.std.specs.Int.{bit_at}
use Rattle.std.proofs.lemmas.Nat.Bits.{bit_at-zero}
use Rattle.char_class.specs.Bits.{has_bit}

no_word : (i : ℕ) → slice_index (0 ∷ 0 ∷ 0 ∷ 0 ∷ []) i ≡ 0
no_word zero = refl
no_word (suc zero) = refl
no_word (suc (suc zero)) = refl
no_word (suc (suc (suc zero))) = refl
no_word (suc (suc (suc (suc i)))) = refl

pub no_code : (c : ℕ) → has_bit (0 ∷ 0 ∷ 0 ∷ 0 ∷ []) c ≡ false
unfolding has_bit
no_code c = ap (λ w. eqb (bit_at w (c % 64)) 1) (no_word (c / 64)) ∙ ap (λ b. eqb b 1) (bit_at-zero (c % 64))
