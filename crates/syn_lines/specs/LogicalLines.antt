-- The logical lines of a file: each line that starts one, with what the lines that follow it append. The first line
-- starts one, whatever it is. A remark is passed over also where no line is continued behind it, since it is a comment then.
use Rattle.std.specs.Prelude.{ℕ, suc, List, [], ◌∷◌, ◌++◌, map, Option, Some, None, if◌then◌else◌}
use Rattle.std.specs.Str.{chars, is_utf8}
use Rattle.text_buffer.specs.TextOfBytes.{byte_lines}
use Rattle.syn_lines.specs.Continuation.{Starts, Continues, Remark, kind_of}
use Rattle.syn_lines.specs.declared.line.LogicalLine.{LogicalLine}
use Rattle.syn_lines.specs.declared.line.LogicalLines.{LogicalLines}
use Rattle.syn_lines.specs.declared.line.LogicalLines.TheVariants.{Lines, BadUtf8}

-- what the lines that follow a line append to it
abbrev pub appended : List (List ℕ) → List ℕ
appended [] = []
appended (line ∷ lines) = elim (kind_of line) [ Continues rest ↦ rest ++ appended lines | Remark ↦ appended lines | Starts ↦ [] ]

abbrev pub logical : ℕ → List ℕ → List (List ℕ) → LogicalLine
logical number line following = record { number = number; text = line ++ appended following }

-- the logical lines that begin in these physical lines, the first of which has this number
abbrev pub lines_from : ℕ → List (List ℕ) → List LogicalLine
lines_from number [] = []
lines_from number (line ∷ lines) =
    elim (kind_of line) [ Starts ↦ logical number line lines ∷ lines_from (suc number) lines | Continues rest ↦ lines_from (suc number) lines | Remark ↦ lines_from (suc number) lines ]

abbrev pub joined_lines : List (List ℕ) → List LogicalLine
joined_lines [] = []
joined_lines (line ∷ lines) = logical 1 line lines ∷ lines_from 2 lines

-- the first of these lines that isn't UTF-8, by its number
abbrev pub first_bad : ℕ → List (List ℕ) → Option ℕ
first_bad number [] = None
first_bad number (line ∷ lines) = if is_utf8 line then first_bad (suc number) lines else Some number

abbrev pub lines_unless : Option ℕ → List (List ℕ) → LogicalLines
lines_unless None lines = Lines (joined_lines (map chars lines))
lines_unless (Some number) lines = BadUtf8 number

-- the logical lines of a file, whose physical lines are the lines of its bytes
abbrev pub logical_lines_of : List ℕ → LogicalLines
logical_lines_of bytes = lines_unless (first_bad 1 (byte_lines bytes)) (byte_lines bytes)
