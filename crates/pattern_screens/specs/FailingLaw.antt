-- Where an attempt is known to fail, it does, within the budget.
use Rattle.std.specs.Prelude.{◌≡◌, ◌≤◌, ◌+◌, ℕ, true, false, nat_lt, length}
use Rattle.vim_pattern.specs.Tree.{PatternTree}
use Rattle.match_rules.specs.Ways.{Context, place, line_at}
use Rattle.match_rules.specs.Attempt.{attempt}
use Rattle.pattern_screens.specs.Behind.{is_cheap_behind}
use Rattle.pattern_screens.specs.Failing.{fails_at}
use Rattle.pattern_screens.specs.Following.{fails_after, takes_first}
use Rattle.pattern_screens.specs.Keys.{key_numbered, key_of}
use Rattle.pattern_screens.specs.Rest.{rest_fails}
use Rattle.pattern_screens.specs.ScreenLaw.{IsInVain}
use Rattle.pattern_screens.specs.TwoLines.{AreWithin}

-- the column is one of the line's, its end included, and its key has this number
pub record IsNumberOf (x : Context) (line col number : ℕ) : Type 0 where
  pub within : col ≤ length (line_at x.text line)
  pub is : key_numbered number ≡ key_of x.sets (line_at x.text line) col

-- by what stands there
abbrev pub FailHere : Type 0
FailHere =
    (tree : PatternTree) (x : Context) (budget line col number : ℕ) →
    IsNumberOf x line col number → fails_at x.sets budget x.ignore number tree ≡ true →
    IsInVain (place line col) budget false (attempt tree x (place line col))

-- by what stands one column behind
abbrev pub FailBefore : Type 0
FailBefore =
    (tree : PatternTree) (x : Context) (budget line col number : ℕ) →
    takes_first (nat_lt 0 col) tree.node ≡ true → IsNumberOf x line (col + 1) number →
    fails_after x.sets budget x.ignore number tree ≡ true →
    IsInVain (place line col) budget false (attempt tree x (place line col))

-- by what follows a look behind, where the line and the one before aren't too long for it; it looks at
-- the line before too
abbrev pub FailBehind : Type 0
FailBehind =
    (tree : PatternTree) (x : Context) (budget most line col number : ℕ) → AreWithin most x.text line →
    IsNumberOf x line col number → rest_fails x.sets x.ignore number tree ≡ true →
    is_cheap_behind budget most tree ≡ true →
    IsInVain (place line col) budget true (attempt tree x (place line col))
