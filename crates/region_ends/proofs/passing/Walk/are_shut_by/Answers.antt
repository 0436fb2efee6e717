use Rattle.region_ends.proofs.Common.{◌∙◌, ap, sym, arith, are_shut, question_of}
use Rattle.region_ends.proofs.PassingLaws.{by_code, by_key}
use Rattle.region_ends.proofs.passing.Walk.are_shut_by.Goals as goal

pub returns-then-number-lt-KEYS : goal.returns-then-number-lt-KEYS
returns-then-number-lt-KEYS c e =
    let q = question_of c.args.self.now in
    by_key q c.args.number (omega (arith, c.if-number-lt-KEYS.true)) ∙ (ap (are_shut q) (sym c.numbered.ensures) ∙ c.are_shut.ensures e)

pub returns : goal.returns
returns c e = by_code (question_of c.args.self.now) c.args.number (omega (arith, c.if-number-lt-KEYS.false)) ∙ c.are_shut_anyway.ensures e
