-- What a physical line is to the line before it (Vim's help, line-continuation).
use Rattle.std.specs.Prelude.{ℕ, nat_eq, List, [], ◌∷◌, Bool, false, if◌then◌else◌}
use Rattle.text_scan.specs.Characters.{is_blank, past_blanks}

-- it starts a line of its own, continues the line before with these characters, or is passed over
pub data PhysicalLine : Type 0 where
  Starts : PhysicalLine
  Continues : List ℕ → PhysicalLine
  Remark : PhysicalLine

abbrev pub backslash : ℕ
backslash = 92

abbrev pub quote : ℕ
quote = 34

abbrev pub begins_with_blank : List ℕ → Bool
begins_with_blank [] = false
begins_with_blank (c ∷ cs) = is_blank c

-- behind its quote, a remark between lines that are continued has a backslash and a blank
abbrev pub is_remark : List ℕ → Bool
is_remark [] = false
is_remark (c ∷ cs) = if nat_eq c backslash then begins_with_blank cs else false

abbrev pub kind_at : List ℕ → PhysicalLine
kind_at [] = Starts
kind_at (c ∷ cs) = if nat_eq c backslash then Continues cs else if nat_eq c quote then (if is_remark cs then Remark else Starts) else Starts

-- by its first characters past blanks
abbrev pub kind_of : List ℕ → PhysicalLine
kind_of text = kind_at (past_blanks text)
