use Rattle.region_ends.proofs.Common.{◌∙◌, ap, sym, are_shut, question_of}
use Rattle.region_ends.proofs.PassingLaws.{by_key}
use Rattle.region_ends.proofs.passing.Walk.passes.Goals as goal

pub returns-then-is_told-clause-passed : goal.returns-then-is_told-clause-passed
returns-then-is_told-clause-passed c _ = record {
  shut = c.is_told.ensures.shut c.if-is_told.true;
  unopened = sym c.is_unopened.ensures ∙ c.if-not-is_unopened.false;
}

pub returns-clause-passed : goal.returns-clause-passed
returns-clause-passed c e =
    let q = question_of c.args.self.now in
    record {
      shut = ap (are_shut q) (sym (c.number.ensures.is ∙ c.of-key.ensures))
          ∙ (sym (by_key q c.number.result c.number.ensures.below) ∙ c.are_known_shut.ensures.shut e);
      unopened = sym c.is_unopened.ensures ∙ c.if-not-is_unopened.false;
    }
