-- Where a line lacks from a column on what a pattern needs, an attempt at that column, or behind it, has
-- no way, is within the budget, and looks at its line alone.
use Rattle.std.specs.Prelude.{◌≡◌, ℕ, ◌≤◌, true, false, length}
use Rattle.vim_pattern.specs.Tree.{PatternTree}
use Rattle.match_rules.specs.Ways.{Context, place, line_at}
use Rattle.match_rules.specs.Attempt.{attempt}
use Rattle.pattern_screens.specs.ScreenLaw.{IsInVain}
use Rattle.pattern_needs.specs.Lacking.{IsNeedOf, Need, is_lacked}

abbrev pub AreNeedsSound : Type 0
AreNeedsSound =
    (tree : PatternTree) (x : Context) (budget : ℕ) (need : Need) (line from col : ℕ) →
    IsNeedOf x.sets x.ignore budget tree need → is_lacked need (line_at x.text line) from ≡ true →
    from ≤ col → col ≤ length (line_at x.text line) →
    IsInVain (place line col) budget false (attempt tree x (place line col))
