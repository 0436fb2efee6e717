-- Characters whose classes, folds and ranges are known.
use Rattle.std.proofs.Common.{◌≡◌, true, false, refl, []}
use Rattle.ucd_case.proofs.Computing.{ucd_case}
use Rattle.ucd_category.proofs.Computing.{ucd_category}
use Rattle.ucd_derived.proofs.Computing.{ucd_derived}
use Rattle.unicode.specs.CaseFolding.{simple_fold}
use Rattle.char_class.specs.CharSet.{set_has, is_member}
use Rattle.char_class.specs.Classes.{is_printable}
use Rattle.char_class.specs.Folds.{is_same, range_holds}

-- ---- printable characters

delete_is_not_printable : is_printable 127 ≡ false
delete_is_not_printable = refl

hard_space_is_not_printable : is_printable 160 ≡ false
hard_space_is_not_printable = refl

first_above_hard_space : is_printable 161 ≡ true
first_above_hard_space = refl

-- ---- above 255

a_letter : set_has [] 0x8A9E ≡ true
unfolding set_has ucd_derived ucd_category
a_letter = refl

a_roman_numeral : set_has [] 0x2167 ≡ true
unfolding set_has ucd_derived ucd_category
a_roman_numeral = refl

a_currency_sign : set_has [] 0x20AC ≡ false
unfolding set_has ucd_derived ucd_category
a_currency_sign = refl

no_letter_below_256 : set_has [] 97 ≡ false
unfolding set_has is_member
no_letter_below_256 = refl

-- ---- folds and ranges with case ignored

final_sigma : is_same 0x3C2 0x3A3 true ≡ true
unfolding is_same ucd_case
final_sigma = refl

sharp_s_is_no_s : is_same 0xDF 115 true ≡ false
unfolding is_same ucd_case
sharp_s_is_no_s = refl

dotted_capital_i : simple_fold 0x130 ≡ 0x130
unfolding ucd_case
dotted_capital_i = refl

-- a range of small letters holds the long s, whose fold is one
long_s_among_small_letters : range_holds 97 122 0x17F true ≡ true
unfolding range_holds ucd_case
long_s_among_small_letters = refl

-- a range of capitals holds it by the capital of its fold
long_s_among_capitals : range_holds 65 90 0x17F true ≡ true
unfolding range_holds ucd_case
long_s_among_capitals = refl

-- beyond a to z no capital counts
capital_e_acute_alone : range_holds 0xC9 0xC9 0xE9 true ≡ false
unfolding range_holds ucd_case
capital_e_acute_alone = refl

itself : range_holds 0xC9 0xC9 0xC9 true ≡ true
unfolding range_holds
itself = refl

case_counts : range_holds 65 90 97 false ≡ false
unfolding range_holds
case_counts = refl
