-- Laws of tables of the characters below 256.
use Rattle.std.proofs.Common.{◌≡◌, ℕ, ◌+◌, Bool, false, cond, eqb, ltb, arith}
use Rattle.std.proofs.lemmas.Bool.Decides.{nat_tests}

-- one more code of a table that is made from the first code on
pub one_more : (holds : ℕ → Bool) (c code : ℕ) → cond (eqb c code) (holds code) (cond (ltb c code) (holds c) false) ≡ cond (ltb c (code + 1)) (holds c) false
one_more holds c code = grind (arith, nat_tests)
