-- Whether the screen of a pattern lets an attempt at a column through, and what is sure of one that
-- it doesn't.
use Rattle.std.specs.Prelude.{◌≡◌, ℕ, Bool, false, List, slice_get}
use Rattle.char_class.specs.declared.sets.Sets.{Sets}
use Rattle.vim_pattern.specs.Tree.{PatternTree}
use Rattle.match_rules.specs.Ways.{Text, line_at, place}
use Rattle.match_rules.specs.Attempt.{attempt, ignores_case}
use Rattle.pattern_screens.specs.FirstAtoms.{first_cost, first_passes}
use Rattle.pattern_screens.specs.ScreenLaw.{IsInVain}
use Rattle.pattern_match.specs.Contexts.{context_in}
use Rattle.pattern_match.specs.declared.context.Context.{Context}

-- the screen at a column, by what stands there
abbrev pub passes_at : PatternTree → Sets → Bool → List ℕ → ℕ → Bool
passes_at tree sets ignore line col =
    first_passes sets (ignores_case tree ignore) (slice_get line col) tree.node

-- wherever this line stands in a text, an attempt at the column has no way, costs at most as many
-- ticks as there are first atoms, and looks at that line alone
abbrev pub IsVainAt : PatternTree → Context → List ℕ → ℕ → Type 0
IsVainAt tree c line col =
    (text : Text) (number : ℕ) → line_at text number ≡ line →
    IsInVain (place number col) (first_cost tree.node) false
    (attempt tree (context_in text c) (place number col))
