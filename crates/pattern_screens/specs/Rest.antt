-- What follows the first piece of a pattern.
use Rattle.std.specs.Prelude.{ℕ, Bool, ◌&&◌, nat_lt}
use Rattle.char_class.specs.declared.sets.Sets.{Sets}
use Rattle.vim_pattern.specs.Shape.{Shape, seq}
use Rattle.vim_pattern.specs.Tree.{PatternTree}
use Rattle.pattern_screens.specs.Keys.{key_numbered}
use Rattle.pattern_screens.specs.Screens.{is_futile}

abbrev pub second_of : Shape → Shape
second_of (seq a b) = b
second_of node = node

abbrev pub rest_tree : PatternTree → PatternTree
rest_tree tree = record tree { node = second_of tree.node }

-- at a column whose key has this number it has no way, and looks at its line alone
abbrev pub rest_fails : Sets → Bool → ℕ → PatternTree → Bool
rest_fails sets ignore number tree =
    nat_lt number 777 && is_futile sets ignore (key_numbered number) (rest_tree tree)
