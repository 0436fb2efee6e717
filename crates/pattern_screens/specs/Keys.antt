-- What a screen sees of a column: what stands there, and what stands before it. There are 777 keys,
-- each with a number of its own.
use Rattle.std.specs.Prelude.{◌≡◌, ℕ, zero, suc, ◌<◌, ◌==◌, ◌/◌, ◌%◌, Bool, true, false, nat_lt, List, Option, None, Some, length, slice_get, slice_index, if◌then◌else◌}
use Rattle.char_class.specs.declared.sets.Sets.{Sets}
use Rattle.match_rules.specs.Atoms.{has_keyword}
use Rattle.pattern_screens.specs.declared.key.Key.{Key}
use Rattle.pattern_screens.specs.declared.key.Last.{Last}
use Rattle.pattern_screens.specs.declared.key.Last.TheVariants as last
use Rattle.pattern_screens.specs.declared.key.Next.{Next}
use Rattle.pattern_screens.specs.declared.key.Next.TheVariants as next

abbrev pub other_of : Bool → Next
other_of true = next.OtherKeyword
other_of false = next.OtherCharacter

-- what stands at a column, where this character does, or none
abbrev pub next_of : Sets → Option ℕ → Next
next_of sets None = next.LineEnd
next_of sets (Some c) = if nat_lt c 256 then next.Code c else other_of (has_keyword sets (Some c))

abbrev pub last_of : Bool → Last
last_of true = last.Keyword
last_of false = last.Other

-- what stands before a column
abbrev pub last_in : Sets → List ℕ → ℕ → Last
last_in sets line zero = last.Nothing
last_in sets line (suc col) = last_of (has_keyword sets (slice_get line col))

abbrev pub key_of : Sets → List ℕ → ℕ → Key
key_of sets line col = record {
  next = next_of sets (slice_get line col);
  last = last_in sets line col;
}

-- ---- what a key tells

abbrev pub is_end : Next → Bool
is_end next.LineEnd = true
is_end _ = false

abbrev pub is_keyword : Sets → Next → Bool
is_keyword sets (next.Code c) = has_keyword sets (Some c)
is_keyword sets next.OtherKeyword = true
is_keyword sets next.OtherCharacter = false
is_keyword sets next.LineEnd = false

abbrev pub is_first : Last → Bool
is_first last.Nothing = true
is_first _ = false

abbrev pub is_after_keyword : Last → Bool
is_after_keyword last.Keyword = true
is_after_keyword _ = false

-- ---- numbers of keys

abbrev pub next_numbered : ℕ → Next
next_numbered n =
    if nat_lt n 256 then next.Code n
    else (if n == 256 then next.OtherKeyword
    else (if n == 257 then next.OtherCharacter else next.LineEnd))

abbrev pub last_numbered : ℕ → Last
last_numbered n = if n == 0 then last.Nothing else (if n == 1 then last.Keyword else last.Other)

-- the key of a number below 777
abbrev pub key_numbered : ℕ → Key
key_numbered n = record { next = next_numbered (n % 259); last = last_numbered (n / 259) }

-- the numbers of the keys of so many columns of a line
pub record AreNumbers (sets : Sets) (line : List ℕ) (count : ℕ) (numbers : List ℕ) : Type 0 where
  pub many : length numbers ≡ count
  pub below : (col : ℕ) → col < count → slice_index numbers col < 777
  pub are : (col : ℕ) → col < count → key_numbered (slice_index numbers col) ≡ key_of sets line col
