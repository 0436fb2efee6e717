use Rattle.std.proofs.Common.{◌≡◌, ◌+◌, ◌-◌, ◌*◌, ◌≤◌, drop}
use Rattle.edit_script.specs.Addresses.{number_behind}
use Rattle.edit_script.proofs.NumberLaws.{tens}
use Rattle.edit_script.proofs.addresses.number_of.Given as goal

-- what was read, with the digits to come, is the whole number; and it stays small enough
abbrev pub invariant-loop-digit : goal.invariant-loop-digit
invariant-loop-digit l = record {
  value : number_behind 0 l.digits ≡ number_behind l.number (drop l.digit-index l.digits);
  small : (l.number + 1) * tens (18 - l.digit-index) ≤ 1000000000000000000;
}
