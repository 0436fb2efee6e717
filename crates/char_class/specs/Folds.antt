-- How characters compare (Vim's help, /ignorecase): by their simple folds where case is ignored.
use Rattle.std.specs.Prelude.{ℕ, ◌==◌, ◌-◌, Bool, ◌&&◌, ◌||◌, nat_le, if◌then◌else◌}
use Rattle.unicode.specs.CaseFolding.{simple_fold}

-- one character, where case is ignored or not
unfoldable pub is_same : ℕ → ℕ → Bool → Bool
is_same c d ignore = if ignore then simple_fold c == simple_fold d else c == d

abbrev pub lies_in : ℕ → ℕ → ℕ → Bool
lies_in low high c = nat_le low c && nat_le c high

-- a to z
abbrev pub is_small_letter : ℕ → Bool
is_small_letter = lies_in 97 122

-- the capital of one of a to z
abbrev pub capital_of : ℕ → ℕ
capital_of c = c - 32

-- a range of a collection holds c with case ignored: c or its fold lies in it, or the capital of the
-- fold, where that is one of a to z
abbrev pub holds_ignoring_case : ℕ → ℕ → ℕ → Bool
holds_ignoring_case low high c =
    lies_in low high c || lies_in low high (simple_fold c)
    || (is_small_letter (simple_fold c) && lies_in low high (capital_of (simple_fold c)))

unfoldable pub range_holds : ℕ → ℕ → ℕ → Bool → Bool
range_holds low high c ignore = if ignore then holds_ignoring_case low high c else lies_in low high c
