-- Reading in the middle of the bytes: what the lines read so far and the lines to come make together.
use Rattle.std.specs.Prelude.{ℕ, List, [], ◌∷◌, ◌++◌, length, drop, map, Result}
use Rattle.std.specs.Str.{chars}
use Rattle.text_buffer.specs.declared.TextError.{TextError}
use Rattle.text_buffer.specs.TextOfBytes.{byte_lines, first_fault, unless}

-- the lines of the bytes behind a line break: none where nothing stands there
abbrev pub lines_behind_break : List ℕ → List (List ℕ)
lines_behind_break [] = []
lines_behind_break (byte ∷ bytes) = byte_lines (byte ∷ bytes)

-- the lines from `at` on, where a line break stands right before `at`
abbrev pub lines_after : List ℕ → ℕ → List (List ℕ)
lines_after bytes at = lines_behind_break (drop at bytes)

-- the text of the lines that were read, with those that come
abbrev pub read_on : List (List ℕ) → List (List ℕ) → Result (List (List ℕ)) TextError
read_on lines coming = unless (first_fault (length lines) coming) (lines ++ map chars coming)
