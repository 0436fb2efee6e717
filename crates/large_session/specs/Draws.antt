-- The draws of the large mode. There is one number, which each draw moves on before it answers.
use Rattle.std.specs.Prelude.{ℕ, ◌+◌, ◌*◌, ◌/◌, ◌%◌}

-- the number behind `x`; 4,294,967,296 is 2 to the 32nd
abbrev pub next_number : ℕ → ℕ
next_number x = (x * 1664525 + 1013904223) % 4294967296

-- what was drawn, and the number behind it
pub record Drawn (A : Type 0) : Type 0 where
  pub value : A
  pub next : ℕ

-- one of the numbers 0 to `n - 1`
abbrev pub draw : ℕ → ℕ → Drawn ℕ
draw n x = record { value = (next_number x / 4096) % n; next = next_number x }
