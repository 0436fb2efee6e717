use Rattle.region_ends.proofs.Common.{◌≡◌, List, Some, slice_get, subst}
use Rattle.region_ends.specs.declared.key_answers.Row.{Row}
use Rattle.region_ends.proofs.key_answers.KeyAnswers.new.Goals as goal

pub returns : goal.returns
returns c is = record {
  told = λ number item there.
      let none = subst (λ (l : List Row). slice_get l item ≡ Some there.0) c.new.ensures.items there.1.0 in
      absurd (cc);
}
