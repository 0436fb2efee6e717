-- The words for a place of a text.
use Rattle.std.specs.Prelude.{ℕ, ◌+◌, List, ◌++◌, codes, decimal}

-- a line and a column, from 1
abbrev pub place_words : ℕ → ℕ → List ℕ
place_words line col = codes "at line " ++ decimal (line + 1) ++ codes ", column " ++ decimal (col + 1)
