use Rattle.std.proofs.Common.{◌≡◌, ◌+◌, ◌-◌, ◌*◌, ◌≤◌, drop}
use Rattle.std.specs.Str.Parse.{digits_value_after}
use Rattle.pattern_items.specs.Numbers.{number_of_digits}
use Rattle.pattern_items.proofs.DigitLaws.{tens}
use Rattle.pattern_items.proofs.numbers.number_of_digits.Given as goal

-- what was read, with the digits to come, is the whole number; and it stays small enough
abbrev pub invariant-loop-digit : goal.invariant-loop-digit
invariant-loop-digit l = record {
  value : number_of_digits l.digits ≡ digits_value_after 10 l.number (drop l.digit-index l.digits);
  small : (l.number + 1) * tens (9 - l.digit-index) ≤ 1000000000;
}
