-- What is seen of a script that is being read.
use Rattle.std.specs.Prelude.{ℕ, List}

-- the number of lines that were answered or skipped, and the bytes behind them
pub record Kept : Type 0 where
  pub lines : ℕ
  pub bytes : List ℕ
