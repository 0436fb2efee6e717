-- Numbers in decimal digits: any number of digits, read by value, none above 65,535.
use Rattle.std.specs.Prelude.{ℕ, ◌+◌, ◌-◌, ◌*◌, nat_le, List, [], ◌∷◌, Option, Some, None, true, false, if◌then◌else◌}
use Rattle.text_scan.specs.Characters.{is_digit}

-- a number with one digit more
abbrev pub with_digit : Option ℕ → ℕ → Option ℕ
with_digit None d = None
with_digit (Some n) d = if nat_le (n * 10 + d) 65535 then Some (n * 10 + d) else None

-- the digits at the front: their number, how many they are, and what follows
pub record Digits : Type 0 where
  pub value : Option ℕ
  pub count : ℕ
  pub rest : List ℕ

abbrev pub digits_after : Option ℕ → ℕ → List ℕ → Digits
digits_after n k [] = record { value = n; count = k; rest = [] }
digits_after n k (c ∷ cs) = elim (is_digit c) [ true ↦ digits_after (with_digit n (c - 48)) (k + 1) cs | false ↦ record { value = n; count = k; rest = c ∷ cs } ]

abbrev pub digits : List ℕ → Digits
digits cs = digits_after (Some 0) 0 cs
