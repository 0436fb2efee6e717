-- The text of bytes. Its lines are the pieces of the bytes between line breaks, without the empty
-- piece that stands behind a line break at the end; so no bytes at all are one empty line. A text is
-- refused at its first line that isn't UTF-8, is too long, or is one line too many.
use Rattle.std.specs.Prelude.{ℕ, suc, ◌==◌, nat_lt, not, List, [], ◌∷◌, length, map, Option, Some, None, Result, Ok, Err, if◌then◌else◌}
use Rattle.std.specs.Str.{chars, is_utf8}
use Rattle.text_buffer.specs.declared.LineFault.{LineFault}
use Rattle.text_buffer.specs.declared.LineFault.TheVariants.{NotUtf8, TooLong}
use Rattle.text_buffer.specs.declared.TextError.{TextError}
use Rattle.text_buffer.specs.declared.TextError.TheVariants.{BadUtf8, LineTooLong, TooManyLines, Memory}

-- LF
abbrev pub line_break : ℕ
line_break = 10

abbrev pub most_lines : ℕ
most_lines = 2000000

-- the most characters of a line
abbrev pub most_chars : ℕ
most_chars = 1000000

-- a byte put before the first of these pieces
abbrev pub longer_first : ℕ → List (List ℕ) → List (List ℕ)
longer_first byte [] = (byte ∷ []) ∷ []
longer_first byte (piece ∷ pieces) = (byte ∷ piece) ∷ pieces

-- the pieces of bytes between line breaks: as many as there are line breaks, and one more
abbrev pub pieces_of : List ℕ → List (List ℕ)
pieces_of [] = [] ∷ []
pieces_of (byte ∷ bytes) =
    let pieces = pieces_of bytes in
    if byte == line_break then [] ∷ pieces else longer_first byte pieces

-- these pieces, without the last one where it is empty
abbrev pub without_empty_last : List (List ℕ) → List (List ℕ)
without_empty_last [] = []
without_empty_last ([] ∷ []) = []
without_empty_last ((byte ∷ piece) ∷ []) = (byte ∷ piece) ∷ []
without_empty_last (piece ∷ next ∷ pieces) = piece ∷ without_empty_last (next ∷ pieces)

-- the lines of these pieces: a last empty one isn't a line if there is another
abbrev pub lines_of_pieces : List (List ℕ) → List (List ℕ)
lines_of_pieces [] = []
lines_of_pieces (piece ∷ pieces) = piece ∷ without_empty_last pieces

-- the lines of bytes, each still bytes
abbrev pub byte_lines : List ℕ → List (List ℕ)
byte_lines bytes = lines_of_pieces (pieces_of bytes)

-- the line that bytes are, or why they are none
abbrev pub line_of : List ℕ → Result (List ℕ) LineFault
line_of bytes =
    if not (is_utf8 bytes) then Err NotUtf8
    else (if nat_lt most_chars (length (chars bytes)) then Err TooLong
    else Ok (chars bytes))

-- the fault of a text whose line `number`, from 0, has this one
abbrev pub numbered : ℕ → LineFault → TextError
numbered number NotUtf8 = BadUtf8 number
numbered number TooLong = LineTooLong number

-- the fault of a text whose line `number` is this one, if it is one
abbrev pub fault_at : ℕ → Result (List ℕ) LineFault → Option TextError
fault_at number (Err fault) = Some (numbered number fault)
fault_at number (Ok line) = if nat_lt number most_lines then None else Some TooManyLines

-- the fault of line `number`, from 0, if it has one
abbrev pub line_fault : ℕ → List ℕ → Option TextError
line_fault number bytes = fault_at number (line_of bytes)

-- the line that a fault names, from 0
abbrev pub line_of_fault : TextError → ℕ
line_of_fault (BadUtf8 line) = line
line_of_fault (LineTooLong line) = line
line_of_fault TooManyLines = most_lines
line_of_fault Memory = 0

-- the first of two faults, if there is one
abbrev pub first_of : Option TextError → Option TextError → Option TextError
first_of None later = later
first_of (Some fault) later = Some fault

-- the fault of the first line that has one, the lines being numbered from `number`
abbrev pub first_fault : ℕ → List (List ℕ) → Option TextError
first_fault number [] = None
first_fault number (line ∷ lines) = first_of (line_fault number line) (first_fault (suc number) lines)

-- the text, unless there is a fault
abbrev pub unless : Option TextError → List (List ℕ) → Result (List (List ℕ)) TextError
unless None text = Ok text
unless (Some fault) text = Err fault

-- the text of bytes, or its first fault
abbrev pub text_of : List ℕ → Result (List (List ℕ)) TextError
text_of bytes = unless (first_fault 0 (byte_lines bytes)) (map chars (byte_lines bytes))
