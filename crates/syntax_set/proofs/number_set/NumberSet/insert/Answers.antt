use Rattle.std.proofs.Common.{◌≡◌, ℕ, List, [], sym, subst}
use Rattle.syntax_set.specs.Numbers.{with_numbers}
use Rattle.syntax_set.proofs.NumberLaws.{each_once-with_number}
use Rattle.syntax_set.proofs.number_set.NumberSet.insert.Goals as goal

-- the numbers stay
pub invariant_of-self : goal.invariant_of-self
invariant_of-self c =
    let P : List ℕ → Type 0 = λ ks. with_numbers [] ks ≡ ks in
    let facts = c.in_err-insert.ensures in
    subst P (sym facts.err) c.self.invariant

-- one more number stands once
pub invariant_of-self-2 : goal.invariant_of-self-2
invariant_of-self-2 c =
    let P : List ℕ → Type 0 = λ ks. with_numbers [] ks ≡ ks in
    let facts = c.in_ok-insert.ensures in
    subst P (sym facts.keys) (each_once-with_number c.self.inside.numbers.keys c.args.number c.self.invariant)
