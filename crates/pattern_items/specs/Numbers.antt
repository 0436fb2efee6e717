-- Numbers: those of multis have any number of digits and are read by value, none above 65,535; in
-- a position each digit counts, and its number is exact.
use Rattle.std.specs.Prelude.{ℕ, List, drop}
use Rattle.std.specs.List.{prefix_len, take_while}
use Rattle.std.specs.Str.Parse.{digits_value}
pub use Rattle.text_scan.specs.Characters.{is_digit}
pub use Rattle.text_scan.specs.Numbers.{with_digit, Digits, digits_after, digits}

-- the digits at the front of a text, and what follows them
abbrev pub front_digits : List ℕ → List ℕ
front_digits text = take_while is_digit text

abbrev pub behind_digits : List ℕ → List ℕ
behind_digits text = drop (prefix_len is_digit text) text

-- the number that digits write, in base ten; leading zeros add nothing to it
abbrev pub number_of_digits : List ℕ → ℕ
number_of_digits digits = digits_value 10 digits
