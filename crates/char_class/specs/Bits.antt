-- The members of a set that is kept in four words of 64 bits, the lowest codes first.
use Rattle.std.specs.Prelude.{ℕ, ◌==◌, ◌/◌, ◌%◌, Bool, List, slice_index}
use Rattle.std.specs.Int.{bit_at}
use Rattle.char_class.specs.CharSet.{set_where}
use Rattle.char_class.specs.declared.codes.Codes.{Codes}

-- the bit of a code
unfoldable pub has_bit : List ℕ → ℕ → Bool
has_bit words c = bit_at (slice_index words (c / 64)) (c % 64) == 1

unfoldable pub members_in : List ℕ → List ℕ
members_in words = set_where (has_bit words)

-- the same of a set
abbrev pub has_code : Codes → ℕ → Bool
has_code codes c = has_bit codes.words c

abbrev pub members_of : Codes → List ℕ
members_of codes = members_in codes.words
