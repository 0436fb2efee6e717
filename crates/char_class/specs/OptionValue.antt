-- What the value of an option such as 'iskeyword' stands for (Vim's help, 'isfname'). The value is
-- a text of parts that are parted by commas and taken from left to right:
--
--     @        the letters
--     a  48    a character, or a code from 1 to 255 in decimal digits
--     a-z      a range of two of these; @-@ is the character `@`
--     ,        the comma, which is a part of its own alone
--     ^a-z     a part with `^` before it is taken out
--     ^        the character `^`, at the end of the value alone
use Rattle.std.specs.Prelude.{ℕ, ◌==◌, ◌+◌, ◌-◌, ◌*◌, Bool, true, false, not, nat_le, List, [], ◌∷◌, length, fold, if◌then◌else◌, Option, Some, None, Result, Ok, Err}
use Rattle.std.specs.List.{list_all}
use Rattle.std.specs.Option.{option_map}
use Rattle.unicode.specs.Binary.{is_alphabetic}
use Rattle.char_class.specs.CharSet.{is_member, set_where}
use Rattle.char_class.specs.Classes.{is_digit}
use Rattle.char_class.specs.Folds.{lies_in}
use Rattle.char_class.specs.declared.option_value.BadOption.{BadOption}
use Rattle.char_class.specs.declared.option_value.Members.{Members}
use Rattle.char_class.specs.declared.option_value.Members.TheVariants.{Letters, Codes}
use Rattle.char_class.specs.declared.option_value.Part.{Part}

-- the characters that parts are spelled with
abbrev pub comma : ℕ
comma = 44

abbrev pub dash : ℕ
dash = 45

abbrev pub at_sign : ℕ
at_sign = 64

abbrev pub caret : ℕ
caret = 94

-- ---- the pieces between the commas

-- where in a part a character stands
pub data Where : Type 0 where
  start : Where
  behind_caret : Where
  inside : Where

-- a comma at the start of a part, or right behind the `^` that starts it, is the part's own
abbrev pub ends_part : Where → ℕ → Bool
ends_part start c = false
ends_part behind_caret c = false
ends_part inside c = c == comma

-- where the character behind c stands
abbrev pub next_place : Where → ℕ → Where
next_place start c = if c == caret then behind_caret else inside
next_place behind_caret c = inside
next_place inside c = inside

-- the first piece, and those behind it
pub record Pieces : Type 0 where
  pub first : List ℕ
  pub further : List (List ℕ)

abbrev pub with_front : ℕ → Pieces → Pieces
with_front c pieces = record pieces { first = c ∷ pieces.first }

abbrev pub with_empty_front : Pieces → Pieces
with_empty_front pieces = record { first = []; further = pieces.first ∷ pieces.further }

-- a text is cut at each comma that ends a part
abbrev pub pieces_from : Where → List ℕ → Pieces
pieces_from place [] = record { first = []; further = [] }
pieces_from place (c ∷ cs) =
    if ends_part place c then with_empty_front (pieces_from start cs)
    else with_front c (pieces_from (next_place place c) cs)

-- ---- a piece as a part

-- decimal digits behind those of n
abbrev pub number_from : ℕ → List ℕ → ℕ
number_from n [] = n
number_from n (d ∷ ds) = number_from (n * 10 + (d - 48)) ds

abbrev pub valid_code : ℕ → Option ℕ
valid_code n = if lies_in 1 255 n then Some n else None

-- a character that nothing follows; a comma is none
abbrev pub character_alone : ℕ → List ℕ → Option ℕ
character_alone c [] = if c == comma then None else valid_code c
character_alone c (d ∷ cs) = None

-- a number whose digits go on behind n
abbrev pub number_alone : ℕ → List ℕ → Option ℕ
number_alone n cs = if list_all is_digit cs then valid_code (number_from n cs) else None

-- a code, in digits or as its character
abbrev pub code_of : List ℕ → Option ℕ
code_of [] = None
code_of (c ∷ cs) = if is_digit c then number_alone (c - 48) cs else character_alone c cs

-- what stands before the first dash, and behind it
abbrev pub before_dash : List ℕ → List ℕ
before_dash [] = []
before_dash (c ∷ cs) = if c == dash then [] else c ∷ before_dash cs

abbrev pub behind_dash : List ℕ → Option (List ℕ)
behind_dash [] = None
behind_dash (c ∷ cs) = if c == dash then Some cs else behind_dash cs

-- from a first code to a last one that isn't less
abbrev pub codes_between : Option ℕ → Option ℕ → Option Members
codes_between None last = None
codes_between (Some first) None = None
codes_between (Some first) (Some last) = if nat_le first last then Some (Codes first last) else None

-- a code alone, or a range to the code behind the dash
abbrev pub range_to : Option ℕ → Option (List ℕ) → Option Members
range_to first None = codes_between first first
range_to first (Some behind) = codes_between first (code_of behind)

-- a code or a range, whose dash is the first one behind its first character
abbrev pub range_of : List ℕ → Option Members
range_of [] = None
range_of (c ∷ cs) = range_to (code_of (c ∷ before_dash cs)) (behind_dash cs)

-- one character alone: `@`, `,` or a code
abbrev pub members_of_one : ℕ → Option Members
members_of_one c =
    if c == at_sign then Some Letters else if c == comma then Some (Codes comma comma) else range_of (c ∷ [])

abbrev pub members_of : List ℕ → Option Members
members_of [] = None
members_of (c ∷ []) = members_of_one c
members_of (c ∷ d ∷ cs) = range_of (c ∷ d ∷ cs)

abbrev pub put_in : Members → Part
put_in members = record { taken_out = false; members = members }

abbrev pub take_out : Members → Part
take_out members = record { taken_out = true; members = members }

-- what stands behind a `^` at a part's start: nothing, at the value's end, makes it the character
abbrev pub part_behind_caret : List ℕ → Option Part
part_behind_caret [] = Some (put_in (Codes caret caret))
part_behind_caret (c ∷ cs) = option_map take_out (members_of (c ∷ cs))

abbrev pub part_of : List ℕ → Option Part
part_of [] = None
part_of (c ∷ cs) = if c == caret then part_behind_caret cs else option_map put_in (members_of (c ∷ cs))

-- ---- a value as its parts

abbrev pub with_first : Part → Result (List Part) BadOption → Result (List Part) BadOption
with_first part (Ok parts) = Ok (part ∷ parts)
with_first part (Err bad) = Err bad

-- the part of a piece that begins at this place, and the parts behind it
abbrev pub or_bad : ℕ → Option Part → Result (List Part) BadOption → Result (List Part) BadOption
or_bad at None parts = Err (record { at = at })
or_bad at (Some part) parts = with_first part parts

-- the parts of pieces of which the first begins at this place, or the place of the first piece that
-- has no reading
abbrev pub parts_of : ℕ → List (List ℕ) → Result (List Part) BadOption
parts_of at [] = Ok []
parts_of at (piece ∷ pieces) = or_bad at (part_of piece) (parts_of (at + length piece + 1) pieces)

abbrev pub reading_of : List ℕ → Result (List Part) BadOption
reading_of text = let pieces = pieces_from start text in parts_of 0 (pieces.first ∷ pieces.further)

-- ---- the set of a value

-- a code is one of those that a part names
abbrev pub is_named : Members → ℕ → Bool
is_named Letters c = is_alphabetic c
is_named (Codes first last) c = lies_in first last c

-- the set after a part
unfoldable pub with_part : List ℕ → Part → List ℕ
with_part set part =
    set_where (λ c. if is_named part.members c then not part.taken_out else is_member set c)

-- the set after parts, taken from left to right
abbrev pub set_with : List ℕ → Result (List Part) BadOption → Result (List ℕ) BadOption
set_with set (Ok parts) = Ok (fold with_part set parts)
set_with set (Err bad) = Err bad

-- the set of a text's characters, or the first part that has no reading
unfoldable pub set_of : List ℕ → Result (List ℕ) BadOption
set_of text = set_with [] (reading_of text)
