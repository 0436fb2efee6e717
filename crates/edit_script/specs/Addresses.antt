-- Addresses and ranges (Vim's help, :range). An address is digits, or `$` for the last line. A
-- range is an address, two with a comma, or `%`, which is `1,$`. There are no blanks. An address of
-- more than 18 digits has its form, and names no line.
use Rattle.std.specs.Prelude.{ℕ, ◌+◌, ◌-◌, ◌*◌, ◌==◌, nat_le, true, false, List, [], ◌∷◌, length, drop, Option, Some, None, if◌then◌else◌}
use Rattle.std.specs.List.{prefix_len, take_while}
use Rattle.text_scan.specs.Characters.{is_digit}
use Rattle.edit_script.specs.declared.commands.Last.{Last}
use Rattle.edit_script.specs.declared.commands.Last.TheVariants.{Number, End}
use Rattle.edit_script.specs.declared.addresses.Range.{Range}

abbrev pub dollar : ℕ
dollar = 36

abbrev pub percent : ℕ
percent = 37

abbrev pub comma : ℕ
comma = 44

-- the most digits of an address
abbrev pub most_digits : ℕ
most_digits = 18

-- the digits at the front of a text, and what follows them
abbrev pub digits_of : List ℕ → List ℕ
digits_of text = take_while is_digit text

abbrev pub behind_digits : List ℕ → List ℕ
behind_digits text = drop (prefix_len is_digit text) text

-- the number of these digits, behind those of another one
abbrev pub number_behind : ℕ → List ℕ → ℕ
number_behind number [] = number
number_behind number (digit ∷ digits) = number_behind (number * 10 + (digit - 48)) digits

-- the line that digits name, if they aren't too many
abbrev pub line_of : List ℕ → Option Last
line_of digits =
    if nat_le (length digits) most_digits then Some (Number (number_behind 0 digits)) else None

-- the address at the front of a text, and what follows it
abbrev pub address_at : List ℕ → Option (Option Last × List ℕ)
address_at [] = None
address_at (c ∷ cs) =
    if c == dollar then Some (Some End, cs)
    else if is_digit c then Some (line_of (digits_of (c ∷ cs)), behind_digits (c ∷ cs))
    else None

-- one address, or two
abbrev pub one_line : Option Last → Range
one_line line = record { first = line; last = line; single = true }

abbrev pub lines_between : Option Last → Option Last → Range
lines_between first last = record { first = first; last = last; single = false }

-- a range that ends with this address
abbrev pub with_last : Option Last → Option (Option Last × List ℕ) → Option (Range × List ℕ)
with_last first None = None
with_last first (Some found) = Some (lines_between first found.0, found.1)

-- a range that begins with this address, before this text
abbrev pub range_from : Option Last → List ℕ → Option (Range × List ℕ)
range_from first [] = Some (one_line first, [])
range_from first (c ∷ cs) =
    if c == comma then with_last first (address_at cs) else Some (one_line first, c ∷ cs)

abbrev pub with_first : Option (Option Last × List ℕ) → Option (Range × List ℕ)
with_first None = None
with_first (Some found) = range_from found.0 found.1

-- the range at the front of a text, and what follows it
abbrev pub range_at : List ℕ → Option (Range × List ℕ)
range_at [] = None
range_at (c ∷ cs) =
    if c == percent then Some (lines_between (Some (Number 1)) (Some End), cs)
    else with_first (address_at (c ∷ cs))
