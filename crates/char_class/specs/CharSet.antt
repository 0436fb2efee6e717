-- A set of characters, seen as the list of its members below 256, least first. From 256 on every set
-- has the alphabetic and the numeric characters.
use Rattle.std.specs.Prelude.{ℕ, ◌==◌, Bool, ◌||◌, nat_lt, List, filter, if◌then◌else◌}
use Rattle.std.specs.List.{list_any, range_with_len}
use Rattle.unicode.specs.Binary.{is_alphabetic}
use Rattle.unicode.specs.GeneralCategory.{general_category}
use Rattle.unicode.specs.GeneralCategoryGroup.{in_group}
use Rattle.ucd_category.specs.declared.GeneralCategoryGroup.TheVariants.{Number}

-- the codes that sets differ in
unfoldable pub low_codes : List ℕ
low_codes = range_with_len 0 256

-- the set whose members below 256 are the codes that pass the test
abbrev pub set_where : (ℕ → Bool) → List ℕ
set_where test = filter test low_codes

-- a member below 256
unfoldable pub is_member : List ℕ → ℕ → Bool
is_member set c = list_any (λ k. k == c) set

-- a number by its General_Category
abbrev pub is_numeric : ℕ → Bool
is_numeric c = in_group Number (general_category c)

unfoldable pub set_has : List ℕ → ℕ → Bool
set_has set c = if nat_lt c 256 then is_member set c else (is_alphabetic c || is_numeric c)
