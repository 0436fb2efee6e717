-- Worked rows: how many lines an edit paints, computed from the rules.
use Rattle.std.specs.Prelude.{◌≡◌, ℕ, List, [], ◌∷◌, codes, refl}
use Rattle.char_class.specs.CharSet.{set_has, is_member}
use Rattle.char_class.specs.Folds.{is_same, range_holds}
use Rattle.keyword_table.specs.Candidates.{candidates}
use Rattle.keyword_table.specs.Words.{word_end}
use Rattle.syntax_set.specs.Membership.{cluster_has}
use Rattle.syntax_set.specs.declared.item.ItemKind.TheVariants.{Match}
use Rattle.syntax_set.specs.declared.item.Pattern.{Pattern}
use Rattle.paint_rules.specs.Syntax.{attempt_by}
use Rattle.paint_rules.proofs.Sample.{in_line, item, lit, syntax}
use Rattle.paint_reuse.specs.Reuse.{is_reusable, lines_to_paint}
use Rattle.paint_reuse.specs.SameState.{same_state}

-- the first of the lines x, x, x becomes these lines
abbrev painted_where : Pattern → List (List ℕ) → ℕ
painted_where pattern new =
    lines_to_paint (syntax (item 0 (Match pattern) ∷ []) []) (codes "x" ∷ codes "x" ∷ codes "x" ∷ []) 0 1 new

-- syn match M "\%2lx"
lines_that_moved_are_painted : painted_where (in_line 2 (codes "x")) [] ≡ 2
unfolding lines_to_paint is_reusable same_state attempt_by word_end candidates set_has is_member is_same range_holds cluster_has
lines_that_moved_are_painted = refl

lines_that_stay_are_kept : painted_where (in_line 2 (codes "x")) (codes "y" ∷ []) ≡ 1
unfolding lines_to_paint is_reusable same_state attempt_by word_end candidates set_has is_member is_same range_holds cluster_has
lines_that_stay_are_kept = refl

-- syn match M "x"
without_a_number_moved_lines_are_kept : painted_where (lit (codes "x")) [] ≡ 0
unfolding lines_to_paint is_reusable same_state attempt_by word_end candidates set_has is_member is_same range_holds cluster_has
without_a_number_moved_lines_are_kept = refl
