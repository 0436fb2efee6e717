-- Reading in the middle of a script: what is known of the command that waits for its dot.
use Rattle.std.specs.Prelude.{ℕ, ◌≡◌, ◌≤◌, ◌+◌, true, false, List, [], ◌∷◌, ◌++◌, length, drop, map, Option, Some, None, Result, Ok, Err, if◌then◌else◌}
use Rattle.std.specs.Str.{chars}
use Rattle.edit_script.specs.declared.commands.ScriptFault.{ScriptFault}
use Rattle.edit_script.specs.declared.commands.ScriptFault.TheVariants.{BadUtf8}
use Rattle.edit_script.specs.declared.head.Head.{Head}
use Rattle.edit_script.specs.declared.draft.Draft.{Draft}
use Rattle.edit_script.specs.declared.reader.Meaning.{Meaning}
use Rattle.edit_script.specs.declared.reader.Meaning.TheVariants.{Nothing, BeginsText, IsWhole}
use Rattle.edit_script.specs.declared.reader.Place.{Place}
use Rattle.edit_script.specs.declared.reader.Reader.{Reader}
use Rattle.edit_script.specs.CommandLine.{line_head}
use Rattle.text_buffer.specs.TextOfBytes.{line_break}
use Rattle.edit_script.specs.Kept.{Kept}
use Rattle.edit_script.specs.Entries.{InText, standing_behind, entries_from, begins_text, entry, has_bad_line, has_long_line, whole_lines, cut_line}

-- these lines of bytes are those of the text that was read
pub record IsTextOf (draft : Draft) (text : List (List ℕ)) : Type 0 where
  pub bad : draft.has_bad_line ≡ has_bad_line text
  pub long : draft.has_long_line ≡ has_long_line text
  pub read : has_bad_line text ≡ false → has_long_line text ≡ false → draft.lines ≡ map chars text

-- a line of the text that isn't UTF-8, or else one that is too long
abbrev pub with_fault : Draft → ScriptFault → Draft
with_fault draft BadUtf8 = record draft { has_bad_line = true }
with_fault draft fault = record draft { has_long_line = true }

-- the command with this line and text waits, whose text begins at this byte
pub record Waits (text_at number : ℕ) (line : List ℕ) (text : List (List ℕ)) : Type 0 where
  pub place : text_at ≡ length line + 1
  pub begins : begins_text line ≡ true
  pub stands : standing_behind (InText number line []) text ≡ InText number line text
  pub silent : entries_from (InText number line []) text ≡ []

-- what waits is what stands in these lines
abbrev pub Fits : Option ℕ → ℕ → List (List ℕ) → Type 0
Fits None number lines = lines ≡ []
Fits (Some text_at) number [] = ⊥
Fits (Some text_at) number (line ∷ text) = Waits text_at number line text

-- `at` is the number of the line that has no line break yet, which begins at byte `cut`
pub record Stands (text : Option ℕ) (lines at cut : ℕ) (bytes : List ℕ) : Type 0 where
  pub fits : Fits text lines (whole_lines bytes)
  pub number : at ≡ lines + length (whole_lines bytes)
  pub rest : drop cut bytes ≡ cut_line bytes
  pub within : cut ≤ length bytes

abbrev pub IsAt : Place → List ℕ → Type 0
IsAt place bytes = Stands place.text place.lines place.at place.cut bytes

abbrev pub IsReading : Reader → Type 0
IsReading reader = IsAt reader.place reader.bytes.items

-- what is seen where reading stands at this place, behind these bytes
abbrev pub kept_at : Place → List ℕ → Kept
kept_at place bytes = record { lines = place.lines; bytes = bytes }

abbrev pub seen : Reader → Kept
seen reader = kept_at reader.place reader.bytes.items

-- what stays of bytes when their line break comes: the lines of a text that waits
abbrev pub stays : Option ℕ → List ℕ → List ℕ
stays None bytes = []
stays (Some text_at) bytes = bytes ++ line_break ∷ []

abbrev pub begin_behind : Option ℕ → ℕ → ℕ → ℕ
begin_behind None begin next = next
begin_behind (Some text_at) begin next = begin

-- what a line means that stands outside of a text
abbrev pub head_meaning : ℕ → List ℕ → Result Head ScriptFault → Meaning
head_meaning number line (Err fault) = IsWhole (entry number line [] true)
head_meaning number line (Ok head) =
    if head.takes_text then BeginsText else IsWhole (entry number line [] true)

abbrev pub meaning_of : ℕ → List ℕ → Meaning
meaning_of number [] = Nothing
meaning_of number (byte ∷ bytes) = head_meaning number (byte ∷ bytes) (line_head (byte ∷ bytes))
