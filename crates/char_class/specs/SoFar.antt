-- What is read of an option's value from left to right, a character at a time: what stands for the
-- characters of a part that were read, and what each further one makes of it.
use Rattle.std.specs.Prelude.{ℕ, ◌==◌, ◌+◌, ◌-◌, ◌*◌, Bool, true, false, ◌&&◌, not, min, List, [], ◌∷◌, length, if◌then◌else◌, Option, Some, None, Result}
use Rattle.std.specs.Option.{option_map}
use Rattle.char_class.specs.Classes.{is_digit}
use Rattle.char_class.specs.OptionValue.{comma, dash, at_sign, caret, Where, start, behind_caret, inside, number_alone, character_alone, code_of, before_dash, behind_dash, codes_between, range_to, members_of, part_of, valid_code, part_behind_caret, pieces_from, parts_of, or_bad, set_with}
use Rattle.char_class.specs.declared.option_value.Members.{Members}
use Rattle.char_class.specs.declared.option_value.Members.TheVariants.{Letters, Codes}
use Rattle.char_class.specs.declared.option_value.Part.{Part}
use Rattle.char_class.specs.declared.option_value.CodeSoFar.{CodeSoFar}
use Rattle.char_class.specs.declared.option_value.CodeSoFar.TheVariants.{Nothing, Number, Character}
use Rattle.char_class.specs.declared.option_value.PartSoFar.{PartSoFar}
use Rattle.char_class.specs.declared.option_value.Reader.{Reader}
use Rattle.char_class.specs.declared.option_value.BadOption.{BadOption}

-- ---- what stands for what was read: the reading of the whole, if these characters follow

abbrev pub code_with : CodeSoFar → List ℕ → Option ℕ
code_with Nothing cs = code_of cs
code_with (Number n) cs = number_alone n cs
code_with (Character c) cs = character_alone c cs

abbrev pub range_with : CodeSoFar → List ℕ → Option Members
range_with first cs = range_to (code_with first (before_dash cs)) (behind_dash cs)

-- one character that is no digit, alone
abbrev pub members_of_character : ℕ → Option Members
members_of_character c =
    if c == at_sign then Some Letters else if c == comma then Some (Codes comma comma)
    else codes_between (valid_code c) (valid_code c)

abbrev pub members_with : CodeSoFar → Option CodeSoFar → List ℕ → Option Members
members_with Nothing None cs = members_of cs
members_with (Number n) None cs = range_with (Number n) cs
members_with (Character c) None [] = members_of_character c
members_with (Character c) None (d ∷ cs) = range_with (Character c) (d ∷ cs)
members_with first (Some last) cs = codes_between (code_with first []) (code_with last cs)

abbrev pub as_part : Bool → Members → Part
as_part taken_out members = record { taken_out = taken_out; members = members }

-- whether nothing of what the part names was read
abbrev pub is_nothing : CodeSoFar → Bool
is_nothing Nothing = true
is_nothing (Number n) = false
is_nothing (Character c) = false

abbrev pub is_untouched : CodeSoFar → Option CodeSoFar → Bool
is_untouched first None = is_nothing first
is_untouched first (Some last) = false

abbrev pub part_with : PartSoFar → List ℕ → Option Part
part_with part cs =
    if is_untouched part.first part.last then (if part.taken_out then part_behind_caret cs else part_of cs)
    else option_map (as_part part.taken_out) (members_with part.first part.last cs)

abbrev pub nothing_read : PartSoFar
nothing_read = record { taken_out = false; first = Nothing; last = None }

-- where the next character stands
abbrev pub place_in : PartSoFar → Where
place_in part =
    if is_untouched part.first part.last then (if part.taken_out then behind_caret else start) else inside

-- the set of the value, or its first bad part, if these characters follow
abbrev pub resumed : Reader → List ℕ → Result (List ℕ) BadOption
resumed reader cs =
    let pieces = pieces_from (place_in reader.part) cs in
    let further = parts_of (reader.at + length pieces.first + 1) pieces.further in
    set_with reader.set (or_bad reader.start (part_with reader.part pieces.first) further)

-- ---- one more character

-- a number after one more digit, where it stops at the greatest one of 16 bits
abbrev pub longer_number : ℕ → ℕ → ℕ
longer_number n c = min (min (n * 10) 65535 + (c - 48)) 65535

abbrev pub longer_code : CodeSoFar → ℕ → Option CodeSoFar
longer_code Nothing c = Some (if is_digit c then Number (c - 48) else Character c)
longer_code (Number n) c = if is_digit c then Some (Number (longer_number n c)) else None
longer_code (Character d) c = None

-- behind a part's dash, its last code goes on
abbrev pub longer_last : PartSoFar → CodeSoFar → ℕ → Option PartSoFar
longer_last part last c = option_map (λ longer. record part { last = Some longer }) (longer_code last c)

-- before it, there may be the `^`, the dash or more of the first code
abbrev pub longer_first : PartSoFar → ℕ → Option PartSoFar
longer_first part c =
    if is_nothing part.first && (c == caret && not part.taken_out) then Some (record part { taken_out = true })
    else if not (is_nothing part.first) && c == dash then Some (record part { last = Some Nothing })
    else option_map (λ longer. record part { first = longer }) (longer_code part.first c)

abbrev pub longer_by : PartSoFar → Option CodeSoFar → ℕ → Option PartSoFar
longer_by part None c = longer_first part c
longer_by part (Some last) c = longer_last part last c

abbrev pub longer_part : PartSoFar → ℕ → Option PartSoFar
longer_part part c = longer_by part part.last c

-- ---- what a part names

-- no code outside these is one of those that are named
abbrev pub bounds_of : Members → ℕ × ℕ
bounds_of Letters = (0, 255)
bounds_of (Codes first last) = (first, last)
