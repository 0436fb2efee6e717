-- Patterns that begin with an atom of one character: what an attempt does at a column behind which what
-- follows the atom fails.
use Rattle.std.specs.Prelude.{◌&&◌, ◌||◌, ◌+◌, ◌*◌, ℕ, Bool, true, false, not, nat_lt}
use Rattle.char_class.specs.declared.sets.Sets.{Sets}
use Rattle.pattern_items.specs.declared.atom.Atom.{Atom}
use Rattle.pattern_items.specs.declared.atom.Atom.TheVariants.{LineStart}
use Rattle.vim_pattern.specs.Shape.{Shape, one, or, seq}
use Rattle.vim_pattern.specs.Tree.{PatternTree}
use Rattle.pattern_screens.specs.Bounds.{failing_cost}
use Rattle.pattern_screens.specs.PlainAtoms.{is_plain}
use Rattle.pattern_screens.specs.Rest.{rest_fails, rest_tree}

abbrev pub is_line_start : Atom → Bool
is_line_start LineStart = true
is_line_start _ = false

-- an atom of one character; or the start of a line, where a place isn't that
abbrev pub takes_leaf : Bool → Shape → Bool
takes_leaf later (one a) = is_plain a || (is_line_start a && later)
takes_leaf later _ = false

-- one of these, or one of two
abbrev pub takes_piece : Bool → Shape → Bool
takes_piece later (one a) = takes_leaf later (one a)
takes_piece later (or a b) = takes_leaf later a && takes_leaf later b
takes_piece later _ = false

-- it begins with such a piece
abbrev pub takes_first : Bool → Shape → Bool
takes_first later (seq a b) = takes_piece later a
takes_first later _ = false

-- where the first piece takes a character, an attempt at the column before one whose key has this number
-- has no way, looks at its line alone, and is within the budget
abbrev pub fails_after : Sets → ℕ → Bool → ℕ → PatternTree → Bool
fails_after sets budget ignore number tree =
    rest_fails sets ignore number tree
    && not (nat_lt budget (2 * (failing_cost (rest_tree tree) + 1)))
