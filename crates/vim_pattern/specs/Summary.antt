-- What is noted of the items, one after the other.
use Rattle.std.specs.Prelude.{ℕ, ◌||◌, true, false}
use Rattle.pattern_items.specs.declared.item.Sign.{Sign}
use Rattle.vim_pattern.specs.declared.notes.Noted.{Noted}
use Rattle.vim_pattern.specs.Shape.{Shape}
use Rattle.vim_pattern.specs.Tree.{PatternTree}
use Rattle.vim_pattern.specs.Pattern.{asks_case, case_by, sets_match_start, holds_line_stop}

abbrev pub noted_next : Noted → Sign → Noted
noted_next n s = record {
  ignores_case = n.ignores_case || asks_case true s;
  heeds_case = n.heeds_case || asks_case false s;
  moves_start = n.moves_start || sets_match_start s;
  line_end = n.line_end || holds_line_stop s;
}

abbrev pub tree_of : Shape → Noted → ℕ → ℕ → PatternTree
tree_of t n groups externals = record { node = t; case = case_by n.ignores_case n.heeds_case; groups = groups; externals = externals; moves_start = n.moves_start; line_end = n.line_end }
