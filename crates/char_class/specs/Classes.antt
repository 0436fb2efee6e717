-- The classes of characters that a pattern names by a letter (Vim's help, /character-classes). Case
-- is never ignored here.
use Rattle.std.specs.Prelude.{ℕ, ◌==◌, Bool, ◌&&◌, ◌||◌, not, nat_le}
use Rattle.syn_base.specs.declared.class.Class.{Class}
use Rattle.syn_base.specs.declared.class.Class.TheVariants.{White, Digit, Hex, Octal, Word, Head, Alpha, Lower, Upper, Ident, Keyword, File, Print, IdentNoDigit, KeywordNoDigit, FileNoDigit, PrintNoDigit}
use Rattle.char_class.specs.CharSet.{set_has}
use Rattle.char_class.specs.Folds.{lies_in}
use Rattle.char_class.specs.declared.sets.Sets.{Sets}

-- `0` to `9`, `a` to `z`, `A` to `Z`
abbrev pub is_digit : ℕ → Bool
is_digit = lies_in 48 57

abbrev pub is_lower : ℕ → Bool
is_lower = lies_in 97 122

abbrev pub is_upper : ℕ → Bool
is_upper = lies_in 65 90

abbrev pub is_letter : ℕ → Bool
is_letter c = is_lower c || is_upper c

abbrev pub is_underscore : ℕ → Bool
is_underscore c = c == 95

-- a digit, `a` to `f` or `A` to `F`
abbrev pub is_hex : ℕ → Bool
is_hex c = is_digit c || lies_in 97 102 c || lies_in 65 70 c

-- 32 to 126, and every code from 161
abbrev pub is_printable : ℕ → Bool
is_printable c = lies_in 32 126 c || nat_le 161 c

abbrev pub class_holds : Class → ℕ → Sets → Bool
class_holds White c sets = c == 32 || c == 9
class_holds Digit c sets = is_digit c
class_holds Hex c sets = is_hex c
class_holds Octal c sets = lies_in 48 55 c
class_holds Word c sets = is_letter c || is_digit c || is_underscore c
class_holds Head c sets = is_letter c || is_underscore c
class_holds Alpha c sets = is_letter c
class_holds Lower c sets = is_lower c
class_holds Upper c sets = is_upper c
class_holds Ident c sets = set_has sets.ident c
class_holds Keyword c sets = set_has sets.keyword c
class_holds File c sets = set_has sets.file c
class_holds Print c sets = is_printable c
class_holds IdentNoDigit c sets = set_has sets.ident c && not (is_digit c)
class_holds KeywordNoDigit c sets = set_has sets.keyword c && not (is_digit c)
class_holds FileNoDigit c sets = set_has sets.file c && not (is_digit c)
class_holds PrintNoDigit c sets = is_printable c && not (is_digit c)
