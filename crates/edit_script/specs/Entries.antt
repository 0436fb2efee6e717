-- What stands in a script. Line by line, an empty line is skipped, the line of an `a`, `i` or `c`
-- begins a text, which goes on up to its dot, and each other line is a command by itself. A line
-- that isn't a command begins no text.
use Rattle.std.specs.Prelude.{ℕ, suc, ◌+◌, Bool, true, false, not, ◌&&◌, ◌||◌, List, [], ◌∷◌, ◌++◌, length, map, codes, Option, Some, None, Result, Ok, Err, if◌then◌else◌}
use Rattle.std.specs.Str.{bytes_eq, chars, is_utf8}
use Rattle.text_buffer.specs.TextOfBytes.{byte_lines, line_break, pieces_of}
use Rattle.edit_script.specs.declared.commands.EditCommand.{EditCommand}
use Rattle.edit_script.specs.declared.commands.Entry.{Entry}
use Rattle.edit_script.specs.declared.commands.ScriptFault.{ScriptFault}
use Rattle.edit_script.specs.declared.commands.ScriptFault.TheVariants.{BadAddress, UnfinishedText, BadUtf8, LongLine}
use Rattle.edit_script.specs.declared.head.Head.{Head}
use Rattle.edit_script.specs.declared.head.Order.{Order}
use Rattle.edit_script.specs.CommandLine.{is_long, line_head, takes_text}
use Rattle.edit_script.specs.Kept.{Kept}

-- ---- one command

-- whether a line of a text isn't UTF-8, and whether one that is has too many characters
abbrev pub has_bad_line : List (List ℕ) → Bool
has_bad_line [] = false
has_bad_line (line ∷ lines) = not (is_utf8 line) || has_bad_line lines

abbrev pub has_long_line : List (List ℕ) → Bool
has_long_line [] = false
has_long_line (line ∷ lines) = (is_utf8 line && is_long line) || has_long_line lines

abbrev pub command_of : Order → List (List ℕ) → EditCommand
command_of order text = record {
  first = order.first;
  last = order.last;
  verb = order.verb;
  lines = map chars text;
}

-- a command whose lines are well: its addresses come before its missing dot
abbrev pub with_order : Option Order → List (List ℕ) → Bool → Result EditCommand ScriptFault
with_order None text ended = Err BadAddress
with_order (Some order) text ended =
    if ended then Ok (command_of order text) else Err UnfinishedText

-- a command with the lines of its text, and whether its dot stands behind them
abbrev pub with_text :
    Result Head ScriptFault → List (List ℕ) → Bool → Result EditCommand ScriptFault
with_text (Err fault) text ended = Err fault
with_text (Ok head) text ended =
    if has_bad_line text then Err BadUtf8
    else if has_long_line text then Err LongLine
    else with_order head.order text ended

-- the entry of a command in line `number`, from 0
abbrev pub entry : ℕ → List ℕ → List (List ℕ) → Bool → Entry
entry number line text ended = record {
  line = number;
  what = with_text (line_head line) text ended;
}

-- ---- line by line

-- where a script stands: before the line of a command, which has this number; or in the text of the
-- command whose line has this number, whose line this is, and that has these lines so far
pub data Standing : Type 0 where
  Between : ℕ → Standing
  InText : ℕ → List ℕ → List (List ℕ) → Standing

abbrev pub is_empty : List ℕ → Bool
is_empty [] = true
is_empty (byte ∷ bytes) = false

abbrev pub is_dot : List ℕ → Bool
is_dot line = bytes_eq line (codes ".")

abbrev pub begins_text : List ℕ → Bool
begins_text line = takes_text (line_head line)

-- where it stands behind one line more
abbrev pub behind : Standing → List ℕ → Standing
behind (Between number) line =
    if begins_text line then InText number line [] else Between (suc number)
behind (InText number line text) next =
    if is_dot next then Between (number + length text + 2)
    else InText number line (text ++ next ∷ [])

-- the entry that one line more makes whole, if it does
abbrev pub made_whole : Standing → List ℕ → List Entry
made_whole (Between number) line =
    if is_empty line || begins_text line then [] else entry number line [] true ∷ []
made_whole (InText number line text) next =
    if is_dot next then entry number line text true ∷ [] else []

abbrev pub standing_behind : Standing → List (List ℕ) → Standing
standing_behind standing [] = standing
standing_behind standing (line ∷ lines) = standing_behind (behind standing line) lines

abbrev pub entries_from : Standing → List (List ℕ) → List Entry
entries_from standing [] = []
entries_from standing (line ∷ lines) =
    made_whole standing line ++ entries_from (behind standing line) lines

-- where the script ends, a text lacks its dot
abbrev pub unfinished : Standing → List Entry
unfinished (Between number) = []
unfinished (InText number line text) = entry number line text false ∷ []

-- ---- bytes

-- the lines that have their line break, and the bytes behind the last one
abbrev pub but_last : List (List ℕ) → List (List ℕ)
but_last [] = []
but_last (piece ∷ []) = []
but_last (piece ∷ next ∷ pieces) = piece ∷ but_last (next ∷ pieces)

abbrev pub last_of : List (List ℕ) → List ℕ
last_of [] = []
last_of (piece ∷ []) = piece
last_of (piece ∷ next ∷ pieces) = last_of (next ∷ pieces)

abbrev pub whole_lines : List ℕ → List (List ℕ)
whole_lines bytes = but_last (pieces_of bytes)

abbrev pub cut_line : List ℕ → List ℕ
cut_line bytes = last_of (pieces_of bytes)

-- lines as bytes, each with its line break
abbrev pub broken : List (List ℕ) → List ℕ
broken [] = []
broken (line ∷ lines) = line ++ line_break ∷ broken lines

-- the line before which everything was answered or skipped, and the lines from there on
abbrev pub lines_before : Standing → ℕ
lines_before (Between number) = number
lines_before (InText number line text) = number

abbrev pub lines_kept : Standing → List (List ℕ)
lines_kept (Between number) = []
lines_kept (InText number line text) = line ∷ text

-- where a script stands behind the whole lines of bytes that follow so many lines
abbrev pub standing_in : ℕ → List ℕ → Standing
standing_in number bytes = standing_behind (Between number) (whole_lines bytes)

-- the entries whose last line is whole, with its line break, in bytes that follow so many lines
abbrev pub entries_of : ℕ → List ℕ → List Entry
entries_of number bytes = entries_from (Between number) (whole_lines bytes)

-- what is kept behind these entries
abbrev pub kept_of : ℕ → List ℕ → Kept
kept_of number bytes =
    let standing = standing_in number bytes in
    record { lines = lines_before standing; bytes = broken (lines_kept standing) ++ cut_line bytes }

-- all entries of the bytes, where the script ends behind them
abbrev pub entries_at_end : ℕ → List ℕ → List Entry
entries_at_end number bytes =
    entries_from (Between number) (byte_lines bytes)
    ++ unfinished (standing_behind (Between number) (byte_lines bytes))
