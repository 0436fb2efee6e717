-- A line and the one before.
use Rattle.std.specs.Prelude.{ℕ, zero, suc, ◌≤◌, ◌+◌, length}
use Rattle.match_rules.specs.Ways.{Text, line_at}

-- how many characters the line before has; before the first line there is none
abbrev pub length_before : Text → ℕ → ℕ
length_before t zero = 0
length_before t (suc line) = length (line_at t line)

-- both have so many characters together, at most
abbrev pub AreWithin : ℕ → Text → ℕ → Type 0
AreWithin most t line = length (line_at t line) + length_before t line ≤ most
