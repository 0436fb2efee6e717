use Rattle.std.proofs.Common.{◌≡◌, ◌+◌, ◌-◌, suc, ◌∙◌, arith}
use Rattle.pattern_items.proofs.DigitLaws.{IsWorth, fits_more, fits_next, digit_read, worth_at}
use Rattle.pattern_items.proofs.numbers.number_of_digits.Goals as goal

pub overflow_mul-number : goal.overflow_mul-number
overflow_mul-number c =
    let left : 9 - c.loop-digit.digit-index ≡ suc (9 - (c.loop-digit.digit-index + 1)) = omega arith in
    let small = fits_more c.loop-digit.number 9 (9 - (c.loop-digit.digit-index + 1)) 1000000000 (omega arith) (rw left at c.loop-digit.invariant.small) in
    omega (arith, small)

pub overflow_add-number : goal.overflow_add-number
overflow_add-number c =
    let left : 9 - c.loop-digit.digit-index ≡ suc (9 - (c.loop-digit.digit-index + 1)) = omega arith in
    let small = fits_more c.loop-digit.number 9 (9 - (c.loop-digit.digit-index + 1)) 1000000000 (omega arith) (rw left at c.loop-digit.invariant.small) in
    let worth : IsWorth c.digit-item.result = worth_at c.args.digits.now c.loop-digit.digit-index c.digit-item.result c.requires.digits (omega arith) c.digit-item.is in
    omega (arith, small, worth.most)

pub loop-digit-preserved : goal.loop-digit-preserved
loop-digit-preserved c =
    let worth : IsWorth c.digit-item.result = worth_at c.args.digits.now c.loop-digit.digit-index c.digit-item.result c.requires.digits (omega arith) c.digit-item.is in
    let left : 9 - c.loop-digit.digit-index ≡ suc (9 - (c.loop-digit.digit-index + 1)) = omega arith in
    record {
      value = c.loop-digit.invariant.value ∙ digit_read c.loop-digit.number c.args.digits.now c.loop-digit.digit-index c.digit-item.result (omega arith) c.digit-item.is worth;
      small = fits_next c.loop-digit.number (c.digit-item.result - 48) (9 - (c.loop-digit.digit-index + 1)) 1000000000 (omega (arith, worth.most)) (rw left at c.loop-digit.invariant.small);
    }
