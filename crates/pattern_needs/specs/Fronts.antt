-- The first pieces of a pattern.
use Rattle.std.specs.Prelude.{ℕ, zero, suc, Option, Some, None}
use Rattle.pattern_items.specs.declared.atom.Atom.TheVariants.{LineStop}
use Rattle.vim_pattern.specs.Shape.{Shape, one, seq}
use Rattle.vim_pattern.specs.Tree.{PatternTree}

-- the pieces of a sequence up to that of a number, which counts from 0
abbrev pub front : Shape → ℕ → Shape
front (seq a b) zero = a
front (seq a b) (suc k) = seq a (front b k)
front node k = node

-- the piece of a number
abbrev pub piece : Shape → ℕ → Shape
piece (seq a b) zero = a
piece (seq a b) (suc k) = piece b k
piece node k = node

-- the same where a number is told, else the whole
abbrev pub front_upto : Option ℕ → Shape → Shape
front_upto None node = node
front_upto (Some k) node = front node k

abbrev pub piece_upto : Option ℕ → Shape → Shape
piece_upto None node = node
piece_upto (Some k) node = piece node k

-- the pieces before that of a number, and then the place at a line's end
abbrev pub stopped : Shape → ℕ → Shape
stopped (seq a b) zero = one LineStop
stopped (seq a b) (suc k) = seq a (stopped b k)
stopped node k = one LineStop

abbrev pub front_tree : Option ℕ → PatternTree → PatternTree
front_tree upto tree = record tree { node = front_upto upto tree.node }
