-- Values whose readings, sets and faults are known, worked out by hand.
use Rattle.std.proofs.Common.{◌≡◌, refl, ℕ, List, [], ◌∷◌}
use Rattle.std.specs.Prelude.{codes, Result, Ok, Err}
use Rattle.ucd_derived.proofs.Computing.{ucd_derived}
use Rattle.char_class.specs.CharSet.{is_member, low_codes}
use Rattle.char_class.specs.OptionValue.{reading_of, set_of, with_part, put_in, take_out}
use Rattle.char_class.specs.declared.option_value.BadOption.{BadOption}
use Rattle.char_class.specs.declared.option_value.Members.TheVariants.{Letters, Codes}
use Rattle.char_class.specs.declared.option_value.Part.{Part}

abbrev bad_at : ℕ → Result (List Part) BadOption
bad_at n = Err (record { at = n })

-- ---- readings

usual_words : reading_of (codes "@,48-57,_,192-255") ≡ Ok (put_in Letters ∷ put_in (Codes 48 57) ∷ put_in (Codes 95 95) ∷ put_in (Codes 192 255) ∷ [])
usual_words = refl

-- the comma stands between two that part it from its neighbours
comma_among_others : reading_of (codes "+,,,#") ≡ Ok (put_in (Codes 43 43) ∷ put_in (Codes 44 44) ∷ put_in (Codes 35 35) ∷ [])
comma_among_others = refl

comma_at_the_end : reading_of (codes "a,,") ≡ Ok (put_in (Codes 97 97) ∷ put_in (Codes 44 44) ∷ [])
comma_at_the_end = refl

comma_taken_out : reading_of (codes " -~,^,,9") ≡ Ok (put_in (Codes 32 126) ∷ take_out (Codes 44 44) ∷ put_in (Codes 9 9) ∷ [])
comma_taken_out = refl

-- `^` at the end of the value is the character
caret_at_the_end : reading_of (codes "^a-z,#,^") ≡ Ok (take_out (Codes 97 122) ∷ put_in (Codes 35 35) ∷ put_in (Codes 94 94) ∷ [])
caret_at_the_end = refl

caret_taken_out : reading_of (codes "@-Z,^^,a") ≡ Ok (put_in (Codes 64 90) ∷ take_out (Codes 94 94) ∷ put_in (Codes 97 97) ∷ [])
caret_taken_out = refl

at_sign_itself : reading_of (codes "@-@") ≡ Ok (put_in (Codes 64 64) ∷ [])
at_sign_itself = refl

-- a code is the character with it, also that of `@`
code_of_at_sign : reading_of (codes "64,^@") ≡ Ok (put_in (Codes 64 64) ∷ take_out Letters ∷ [])
code_of_at_sign = refl

dashes : reading_of (codes "-,---,--a") ≡ Ok (put_in (Codes 45 45) ∷ put_in (Codes 45 45) ∷ put_in (Codes 45 97) ∷ [])
dashes = refl

leading_zeros : reading_of (codes "007-0255") ≡ Ok (put_in (Codes 7 255) ∷ [])
leading_zeros = refl

-- ---- faults

code_too_great : reading_of (codes "@,300") ≡ bad_at 2
code_too_great = refl

least_code_too_great : reading_of (codes "256") ≡ bad_at 0
least_code_too_great = refl

code_zero : reading_of (codes "1,0-9") ≡ bad_at 2
code_zero = refl

character_too_great : reading_of (322 ∷ []) ≡ bad_at 0
character_too_great = refl

-- a place counts characters
behind_a_wide_character : reading_of (233 ∷ 44 ∷ 322 ∷ []) ≡ bad_at 2
behind_a_wide_character = refl

character_zero : reading_of (0 ∷ []) ≡ bad_at 0
character_zero = refl

backwards : reading_of (codes "z-a") ≡ bad_at 0
backwards = refl

comma_ends_no_range : reading_of (codes "+-,") ≡ bad_at 0
comma_ends_no_range = refl

comma_begins_no_range : reading_of (codes ",-.") ≡ bad_at 0
comma_begins_no_range = refl

caret_before_a_comma : reading_of (codes "a,^,b") ≡ bad_at 2
caret_before_a_comma = refl

caret_begins_no_range : reading_of (codes "^-z") ≡ bad_at 0
caret_begins_no_range = refl

two_carets : reading_of (codes "^^a-z") ≡ bad_at 0
two_carets = refl

range_from_a_caret_taken_out : reading_of (codes "^^-z") ≡ Ok (take_out (Codes 94 122) ∷ [])
range_from_a_caret_taken_out = refl

empty_part_at_the_end : reading_of (codes "a,") ≡ bad_at 2
empty_part_at_the_end = refl

empty_value : reading_of [] ≡ bad_at 0
empty_value = refl

open_range : reading_of (codes "b,a-,c") ≡ bad_at 2
open_range = refl

two_characters : reading_of (codes "ab") ≡ bad_at 0
two_characters = refl

blank_behind_a_comma : reading_of (codes "a, b") ≡ bad_at 2
blank_behind_a_comma = refl

-- ---- sets

from_left_to_right : set_of (codes "a-e,^b-c,c") ≡ Ok (97 ∷ 99 ∷ 100 ∷ 101 ∷ [])
unfolding set_of with_part is_member low_codes
from_left_to_right = refl

-- the alphabetic codes alone, `ª`, `µ` and `º` among them, but not `²`, `×` and `÷`
letters_below_256 : set_of (codes "@,^A-Z,^a-z,^192-214,^216-246,^248-255") ≡ Ok (170 ∷ 181 ∷ 186 ∷ [])
unfolding set_of with_part is_member low_codes ucd_derived
letters_below_256 = refl
