use Rattle.std.proofs.Common.{◌≡◌, ◌+◌, ◌≤◌, drop, length}
use Rattle.std.specs.Prelude.{IfSome}
use Rattle.text_scan.specs.Numbers.{digits, digits_after}
use Rattle.text_scan.proofs.numbers.digits.Given as goal

-- the digits so far, with those to come, are the digits of the whole
abbrev pub invariant-loop-c : goal.invariant-loop-c
invariant-loop-c l = record {
  same : digits_after l.value l.count l.rest ≡ digits l.text;
  small : IfSome l.value (λ n. n ≤ 65535);
  behind : l.rest ≡ drop l.count l.text;
  within : l.count + length l.rest ≡ length l.text;
}

abbrev pub decreases-loop-c : goal.decreases-loop-c
decreases-loop-c l = length l.rest
