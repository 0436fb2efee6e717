-- Style commands (Vim's help, highlight-args).
use Rattle.std.specs.Prelude.{ℕ, List, [], ◌∷◌, ◌++◌, Option, Some, None, Bool, true, false, if◌then◌else◌, Result, Ok, Err, codes}
use Rattle.std.specs.Option.{option_to_list}
use Rattle.syn_words.specs.declared.cause.Cause.{Cause}
use Rattle.syn_words.specs.declared.cause.Cause.TheVariants.{UnknownOption, BadStyle, MissingArgument}
use Rattle.syn_words.specs.declared.what.StylePart.{StylePart}
use Rattle.syn_words.specs.declared.what.StylePart.TheVariants.{Front, Back, Shape}
use Rattle.word_values.specs.declared.style_words.StyleKey.{StyleKey}
use Rattle.word_values.specs.declared.style_words.StyleKey.TheVariants.{FrontColour, BackColour, Shapes, NoEffect}
use Rattle.word_reader.specs.declared.words.Until.TheVariants as until
use Rattle.syn_words.specs.Answers.{Read, ◌>>=◌}
use Rattle.text_scan.specs.Characters.{past_blanks}
use Rattle.word_reader.specs.Words.{begins, behind_equals, behind_first, has_equals, is_over, is_word, past, run}
use Rattle.syn_words.specs.Arguments.{value_start}
use Rattle.word_values.specs.Parts.{has_part}
use Rattle.word_values.specs.StyleWords.{style_key, rgb}

-- A key, and what its value says.

abbrev pub coloured : Option ℕ → Result (Option (Option ℕ)) Cause
coloured (Some n) = Ok (Some (Some n))
coloured None = Err BadStyle

-- `#rrggbb`, `NONE`, or the name of a colour, which says nothing
abbrev pub colour : List ℕ → Result (Option (Option ℕ)) Cause
colour value =
    if begins 35 value then coloured (rgb (behind_first value))
    else if is_word value (codes "NONE") then Ok (Some None)
    else Ok None

abbrev pub shape : List ℕ → StylePart
shape value = Shape (has_part 44 (codes "bold") value) (has_part 44 (codes "italic") value) (has_part 44 (codes "underline") value)

abbrev pub front_part : Option (Option ℕ) → Option StylePart
front_part None = None
front_part (Some found) = Some (Front found)

abbrev pub back_part : Option (Option ℕ) → Option StylePart
back_part None = None
back_part (Some found) = Some (Back found)

abbrev pub style_part : StyleKey → List ℕ → Result (Option StylePart) Cause
style_part FrontColour value = colour value >>= λ found. Ok (front_part found)
style_part BackColour value = colour value >>= λ found. Ok (back_part found)
style_part Shapes value = Ok (Some (shape value))
style_part NoEffect value = Ok None

-- the part of a key whose value begins behind the equals sign
abbrev pub keyed : StyleKey → List ℕ → Read (Option StylePart)
keyed key text = do
  start ← value_start text
  part ← style_part key (run until.Word start)
  Ok (part, past until.Word start)

abbrev pub keyed_by : Option StyleKey → List ℕ → Read (Option StylePart)
keyed_by None rest = Err UnknownOption
keyed_by (Some key) rest = if has_equals rest then keyed key (behind_equals rest) else Err UnknownOption

-- one key with its value
abbrev pub style_piece : List ℕ → Read (Option StylePart)
style_piece text = keyed_by (style_key (run until.Key text)) (past until.Key text)

-- a style has at least one key
abbrev pub parts_whole : Bool → List StylePart → Result (List StylePart) Cause
parts_whole some so_far = if some then Ok so_far else Err MissingArgument

abbrev pub parts_so_far : Bool → List StylePart → List ℕ → Read (List StylePart)
parts_so_far some so_far text = parts_whole some so_far >>= λ all. Ok (all, text)

-- The parts from here on, behind those so far; the first says whether there was a key. A key takes a character at least, so
-- as many turns as characters are enough.
abbrev pub parts_after : Bool → List StylePart → List ℕ → List ℕ → Read (List StylePart)
parts_after some so_far [] text = parts_so_far some so_far text
parts_after some so_far (t ∷ turns) text =
    if is_over (past_blanks text) then parts_so_far some so_far (past_blanks text)
    else (style_piece (past_blanks text) >>= λ p. parts_after true (so_far ++ option_to_list p.0) turns p.1)

abbrev pub style_parts : List ℕ → Read (List StylePart)
style_parts text = parts_after false [] text text
