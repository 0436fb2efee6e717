use Rattle.region_ends.proofs.Common.{◌∙◌, ap, arith, sym, ℕ, Some, question_of}
use Rattle.region_ends.proofs.PassingLaws.{at_code}
use Rattle.region_ends.proofs.passing.Walk.is_told.Goals as goal

pub returns-in-Ok-clause-shut : goal.returns-in-Ok-clause-shut
returns-in-Ok-clause-shut c e =
    let a = c.args.self.now in
    let code = c.in-Ok.ensures in
    at_code (question_of a) a.line.now c.args.c c.in-Ok.code
    (sym c.at.ensures ∙ (c.in-Some.is ∙ ap (λ (n : ℕ). Some n) (sym code.1))) (omega (arith, code.0, code.1)) (c.are_known_shut.ensures.shut e)
