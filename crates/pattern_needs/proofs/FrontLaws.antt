-- The pieces of what is left of a sequence are its further ones.
use Rattle.std.proofs.Common.{◌≡◌, ◌+◌, ap, sym, ◌∙◌, arith}
use Rattle.std.specs.Prelude.{ℕ, suc, Some}
use Rattle.vim_pattern.specs.Shape.{Shape, seq}
use Rattle.pattern_needs.specs.Fronts.{piece, piece_upto}

abbrev pub AreFurther : Shape → ℕ → Shape → Type 0
AreFurther all number rest = (j : ℕ) → piece all (number + j) ≡ piece rest j

-- behind the first of them
pub further-behind : (all rest a b : Shape) (number next : ℕ) → AreFurther all number rest → rest ≡ seq a b → next ≡ number + 1 →
    AreFurther all next b
further-behind all rest a b number next h e n j =
    let same : next + j ≡ number + suc j = omega (arith, n) in
    ap (piece all) same ∙ h (suc j) ∙ ap (λ t. piece t (suc j)) e

-- the first of them
pub further-first : (all rest a b : Shape) (number : ℕ) → AreFurther all number rest → rest ≡ seq a b →
    a ≡ piece_upto (Some number) all
further-first all rest a b number h e =
    let same : number + 0 ≡ number = omega arith in
    sym (sym (ap (piece all) same) ∙ h 0 ∙ ap (λ t. piece t 0) e)
