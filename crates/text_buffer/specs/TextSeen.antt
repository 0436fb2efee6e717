-- A text, as contracts see it.
use Rattle.std.specs.Prelude.{ℕ, List}
pub use Rattle.chunk_list.specs.Replaced.{replaced}

-- its lines, and for how many further lines there is room
pub record TextSeen : Type 0 where
  pub lines : List (List ℕ)
  pub spare : ℕ
