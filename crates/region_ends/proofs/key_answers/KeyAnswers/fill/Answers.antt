use Rattle.region_ends.proofs.Common.{◌≡◌, ◌∙◌, ap, arith, inl, inr, length, length-append, List, [], ◌∷◌, Some, slice_get, subst}
use Rattle.slots.proofs.EntryLaws.{pushed}
use Rattle.region_ends.specs.KeyAnswers.{IsYesAt}
use Rattle.region_ends.specs.declared.key_answers.Row.{Row}
use Rattle.region_ends.proofs.key_answers.KeyAnswers.fill.Goals as goal

pub returns-in_err-push-clause-kept : goal.returns-in_err-push-clause-kept
returns-in_err-push-clause-kept c j k is =
    c.loop.invariant.kept j k
    (is.0, (subst (λ (l : List Row). slice_get l j ≡ Some is.0) c.in_err-push.ensures.items is.1.0, is.1.1))

pub loop-preserved : goal.loop-preserved
loop-preserved c =
    let many = c.loop.invariant.many in
    let one_more = ap (λ (l : List Row). length l) c.in_ok-push.ensures.items ∙ length-append c.loop.self.rows.items (c.new.result ∷ []) in
    record {
      many = omega (arith, many, one_more);
      kept = λ j k is.
          let there = subst (λ (l : List Row). slice_get l j ≡ Some is.0) c.in_ok-push.ensures.items is.1.0 in
          elim (pushed c.loop.self.rows.items c.new.result j is.0 there) [
            | inl before ↦ c.loop.invariant.kept j k (is.0, (before, is.1.1))
            | inr last ↦ absurd (c.new.ensures k (subst (λ (r : Row). IsYesAt r.answers.items k) last.1 is.1.1))
          ];
    }
