use Rattle.region_ends.proofs.Common.{◌∙◌, ◌+◌, ap, arith, sym, ℕ, Some, are_shut, question_of}
use Rattle.region_ends.proofs.PassingLaws.{at_code, by_key}
use Rattle.region_ends.proofs.passing.Walk.is_known_idle.Goals as goal

pub returns-then-is_yes : goal.returns-then-is_yes
returns-then-is_yes c _ =
    let a = c.args.self.now in
    let code = c.in-Ok.ensures in
    record {
      shut = at_code (question_of a) a.line.now c.args.c c.in-Ok.code
          (sym c.at.ensures ∙ (c.in-Some.is ∙ ap (λ (n : ℕ). Some n) (sym code.1))) (omega (arith, code.0, code.1))
          (c.requires.row (777 + c.in-Ok.code) (c.is_yes.ensures c.if-is_yes.true));
      unopened = sym c.is_unopened.ensures ∙ c.if-not-is_unopened.false;
    }

pub returns-else-is_yes : goal.returns-else-is_yes
returns-else-is_yes c e =
    let q = question_of c.args.self.now in
    record {
      shut = ap (are_shut q) (sym (c.number.ensures.is ∙ c.of-key.ensures))
          ∙ (sym (by_key q c.number.result c.number.ensures.below) ∙ c.requires.row c.number.result (c.is_yes-in-Ok.ensures e));
      unopened = sym c.is_unopened.ensures ∙ c.if-not-is_unopened.false;
    }
