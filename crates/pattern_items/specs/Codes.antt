-- Characters by their code (Vim's help, /\%d and its kin): decimal with up to ten digits, octal
-- with up to four
-- and at most 0377, hexadecimal with up to two, four or eight.
use Rattle.std.specs.Prelude.{ℕ, ◌==◌, ◌+◌, ◌*◌, nat_lt, nat_le, ◌&&◌, ◌||◌, List, [], ◌∷◌, Option, Some, None, Bool, if◌then◌else◌}
use Rattle.std.specs.Char.{digit_value}
use Rattle.pattern_items.specs.declared.codes.Code.{Code}
use Rattle.pattern_items.specs.declared.codes.Notation.{Notation}
use Rattle.pattern_items.specs.declared.codes.Notation.TheVariants.{Decimal, Octal, Hex2, Hex4, Hex8}
use Rattle.pattern_items.specs.Characters.{char}

-- the notation that a letter names: `d`, `o`, `x`, `u`, `U`
abbrev pub notation_of : ℕ → Option Notation
notation_of c =
    if c == char "d" then Some Decimal
    else if c == char "o" then Some Octal
    else if c == char "x" then Some Hex2
    else if c == char "u" then Some Hex4
    else if c == char "U" then Some Hex8
    else None

abbrev pub base_of : Notation → ℕ
base_of Decimal = 10
base_of Octal = 8
base_of Hex2 = 16
base_of Hex4 = 16
base_of Hex8 = 16

abbrev pub most_digits : Notation → ℕ
most_digits Decimal = 10
most_digits Octal = 4
most_digits Hex2 = 2
most_digits Hex4 = 4
most_digits Hex8 = 8

-- an octal code stops before the digit that would take it above 0377; the others are stopped by
-- their digits alone
abbrev pub greatest_of : Notation → ℕ
greatest_of Decimal = 9999999999
greatest_of Octal = 255
greatest_of Hex2 = 9999999999
greatest_of Hex4 = 9999999999
greatest_of Hex8 = 9999999999

-- whether a character is one more digit of a code
abbrev pub takes : Notation → Code → ℕ → Bool
takes notation code c =
    nat_lt code.count (most_digits notation) && nat_lt (digit_value c) (base_of notation)
    && nat_le (code.value * base_of notation + digit_value c) (greatest_of notation)

abbrev pub with_digit : Notation → Code → ℕ → Option Code
with_digit notation code c =
    if takes notation code c then Some (record {
      value = code.value * base_of notation + digit_value c;
      count = code.count + 1;
    })
    else None

abbrev pub code_after : Notation → Code → List ℕ → Code
code_after notation code [] = code
code_after notation code (c ∷ cs) = elim (with_digit notation code c) [
  | None ↦ code
  | Some more ↦ code_after notation more cs
]

-- the code that the digits at the front write
abbrev pub code : Notation → List ℕ → Code
code notation text = code_after notation (record { value = 0; count = 0 }) text

-- a character's code is at most 0x10FFFF and no half of a pair
abbrev pub is_character : ℕ → Bool
is_character value = nat_lt value 55296 || (nat_lt 57343 value && nat_lt value 1114112)

-- the character of a code, where it has one
abbrev pub char_of : ℕ → Option ℕ
char_of value = if is_character value then Some value else None
