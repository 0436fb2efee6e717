use Rattle.std.proofs.Common.{◌≡◌, ◌+◌, ◌-◌, ◌≤◌, suc, ◌∙◌, arith}
use Rattle.edit_script.proofs.NumberLaws.{fits_now, fits_next, digit_read, digit_small}
use Rattle.edit_script.proofs.addresses.number_of.Goals as goal

pub overflow_mul-number : goal.overflow_mul-number
overflow_mul-number c =
    let small = fits_now c.loop-digit.number (18 - c.loop-digit.digit-index) 1000000000000000000 c.loop-digit.invariant.small in
    omega (arith, small)

pub overflow_add-number : goal.overflow_add-number
overflow_add-number c =
    let small = fits_now c.loop-digit.number (18 - c.loop-digit.digit-index) 1000000000000000000 c.loop-digit.invariant.small in
    let digit : c.digit-item.result - 48 ≤ 9 = digit_small c.args.digits.now c.loop-digit.digit-index c.digit-item.result c.requires.digits (omega arith) c.digit-item.is in
    omega (arith, small, digit)

pub loop-digit-preserved : goal.loop-digit-preserved
loop-digit-preserved c =
    let i = c.loop-digit.digit-index in
    let digit : c.digit-item.result - 48 ≤ 9 = digit_small c.args.digits.now c.loop-digit.digit-index c.digit-item.result c.requires.digits (omega arith) c.digit-item.is in
    let left : 18 - c.loop-digit.digit-index ≡ suc (18 - (c.loop-digit.digit-index + 1)) = omega arith in
    record {
      value = c.loop-digit.invariant.value ∙ digit_read c.loop-digit.number c.args.digits.now c.loop-digit.digit-index c.digit-item.result (omega arith) c.digit-item.is;
      small = fits_next c.loop-digit.number (c.digit-item.result - 48) (18 - (c.loop-digit.digit-index + 1)) 1000000000000000000 digit (rw left at c.loop-digit.invariant.small);
    }
