-- The bytes of a text.
use Rattle.std.specs.Prelude.{ℕ, List, [], ◌∷◌, ◌++◌, encode_utf8_all}
use Rattle.text_buffer.specs.TextOfBytes.{line_break}

-- each line in UTF-8, and behind it a line break
abbrev pub bytes_of : List (List ℕ) → List ℕ
bytes_of [] = []
bytes_of (line ∷ lines) = encode_utf8_all line ++ line_break ∷ bytes_of lines
