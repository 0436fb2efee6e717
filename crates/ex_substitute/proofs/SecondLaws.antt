-- The table of what may stand second, one character more.
use Rattle.std.proofs.Common.{◌≡◌, ◌<◌, ◌≤◌, ◌+◌, ℕ, Bool, true, false, not, refl, sym, ap, subst, ◌∙◌, arith, inl, inr}
use Rattle.std.specs.Prelude.{IsTrue, nat_eq, ◌⊎◌, if◌then◌else◌}
use Rattle.std.proofs.lemmas.Bool.Decides.{nat_tests}
use Rattle.char_class.specs.Bits.{has_code}
use Rattle.char_class.specs.declared.codes.Codes.{Codes}
use Rattle.ex_substitute.specs.Begins.{IsNoSecond, Setting}

put-out : (is_none : Bool) → not is_none ≡ false → is_none ≡ true
put-out true e = refl
put-out false e = absurd (cc)

pub no-second-step : (s : Setting) (old new : Codes) (code : ℕ) (is_none : Bool) → ((c : ℕ) → has_code new c ≡ (if nat_eq c code then not is_none else has_code old c)) → (IsTrue is_none → IsNoSecond s code)
    → ((c : ℕ) → c < code → has_code old c ≡ false → IsNoSecond s c) → (c : ℕ) → c < code + 1 → has_code new c ≡ false → IsNoSecond s c
no-second-step s old new code is_none set told before c within out = by-order (order c code)
  where
    order : (c code : ℕ) → (c < code) ⊎ (code ≤ c)
    order c code = grind arith

    by-order : (c < code) ⊎ (code ≤ c) → IsNoSecond s c
    by-order (inl less) =
        let other : nat_eq c code ≡ false = grind (arith, nat_tests) in
        before c less (sym (ap (λ b. if b then not is_none else has_code old c) other) ∙ sym (set c) ∙ out)
    by-order (inr h) =
        let same : c ≡ code = omega arith in
        let it : nat_eq c code ≡ true = grind (arith, nat_tests) in
        subst (λ n. IsNoSecond s n) (sym same) (told (put-out is_none (sym (ap (λ b. if b then not is_none else has_code old c) it) ∙ sym (set c) ∙ out)))
