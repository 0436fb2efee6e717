use Rattle.std.proofs.Common.{◌≡◌, ℕ, List, [], sym, subst}
use Rattle.syntax_set.specs.Numbers.{with_numbers}
use Rattle.syntax_set.proofs.NumberLaws.{each_once-take}
use Rattle.syntax_set.proofs.number_set.NumberSet.truncate.Goals as goal

-- the first numbers stand once
pub invariant_of-self : goal.invariant_of-self
invariant_of-self c =
    let P : List ℕ → Type 0 = λ ks. with_numbers [] ks ≡ ks in
    subst P (sym c.truncate.ensures.keys) (each_once-take c.self.inside.numbers.keys c.args.place c.self.invariant)
