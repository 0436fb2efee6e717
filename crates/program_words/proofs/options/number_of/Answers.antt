use Rattle.std.proofs.Common.{sym, ap, subst, ◌∙◌, drop, get_or, ◌+◌, add-one}
use Rattle.std.specs.Prelude.{Some}
use Rattle.std.proofs.Math.Seq.{drop-cons}
use Rattle.program_words.specs.Words.{number_after, with_digit}
use Rattle.program_words.proofs.options.number_of.Goals as goal

pub returns-in_err-number-clause-is : goal.returns-in_err-number-clause-is
returns-in_err-number-clause-is c =
    c.from_residual.ensures
    ∙ ap (λ o. number_after c.args.most o (drop (c.loop-byte.byte-index + 1) c.args.digits.now)) c.in_err-number.ensures.is
    ∙ ap (λ j. number_after c.args.most (with_digit c.args.most c.loop-byte.number (get_or c.args.digits.now c.loop-byte.byte-index 0)) (drop j c.args.digits.now)) (add-one c.loop-byte.byte-index)
    ∙ ap (λ l. number_after c.args.most (Some c.loop-byte.number) l)
    (sym (drop-cons c.args.digits.now c.loop-byte.byte-index 0 c.loop-byte-test.true))
    ∙ sym c.loop-byte.invariant.1
