-- A pattern's tree, as contracts see it.
use Rattle.std.specs.Prelude.{ℕ, Bool, Option}
use Rattle.vim_pattern.specs.Shape.{Shape}

-- the fields of a tree, with its nodes as a shape
pub record PatternTree : Type 0 where
  pub node : Shape
  pub case : Option Bool
  pub groups : ℕ
  pub externals : ℕ
  pub moves_start : Bool
  pub line_end : Bool
