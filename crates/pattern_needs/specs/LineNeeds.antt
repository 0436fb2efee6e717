-- What a line must hold so that a pattern has a way in it.
use Rattle.std.specs.Prelude.{◌≡◌, ℕ, ◌≤◌, Bool, true, false, List, length, IfSome, Option, Some}
use Rattle.std.specs.List.{All}
use Rattle.char_class.specs.declared.sets.Sets.{Sets}
use Rattle.vim_pattern.specs.Tree.{PatternTree}
use Rattle.match_rules.specs.Ways.{Context, line_at, place}
use Rattle.match_rules.specs.Attempt.{attempt}
use Rattle.pattern_screens.specs.ScreenLaw.{IsInVain}
use Rattle.pattern_needs.specs.Characters.{holds}
use Rattle.pattern_needs.specs.Endings.{IsLastOf}
use Rattle.pattern_needs.specs.Nonblanks.{IsSecondOf}
use Rattle.pattern_needs.specs.declared.held.Held.{Held}
use Rattle.pattern_needs.specs.declared.line_need.LineNeed.{LineNeed}
use Rattle.pattern_needs.specs.declared.one_of.OneOf.{OneOf}

-- all characters of a line are among these, and these are the second and the last that aren't blanks
pub record IsHeldOf (held : Held) (line : List ℕ) : Type 0 where
  pub each : All (λ c. holds held.characters c ≡ true) line
  pub second : IfSome held.second (IsSecondOf line)
  pub last : IfSome held.last (IsLastOf line)

-- the same of a line of at most so many
pub record AreHeld (held : Held) (many : ℕ) (line : List ℕ) : Type 0 where
  pub are : IsHeldOf held line
  pub few : length line ≤ many

-- each attempt in a line has no way, is within the budget, and looks at its line alone
abbrev pub IsVainIn : Sets → Bool → ℕ → PatternTree → List ℕ → Type 0
IsVainIn sets ignore budget tree line =
    (x : Context) (l col : ℕ) → x.sets ≡ sets → x.ignore ≡ ignore → line_at x.text l ≡ line → col ≤ length line →
    IsInVain (place l col) budget false (attempt tree x (place l col))

-- lines of at most so many characters are of no use to a pattern that have none of these
abbrev pub IsOneNeeded : Sets → Bool → ℕ → PatternTree → OneOf → Type 0
IsOneNeeded sets ignore budget tree need =
    (line : List ℕ) → length line ≤ need.most → All (λ c. holds need.characters c ≡ false) line →
    IsVainIn sets ignore budget tree line

-- nor are those whose second character that isn't a blank is none of these
abbrev pub IsSecondNeeded : Sets → Bool → ℕ → PatternTree → OneOf → Type 0
IsSecondNeeded sets ignore budget tree need =
    (line : List ℕ) → length line ≤ need.most → (c : ℕ) → IsSecondOf line c → holds need.characters c ≡ false →
    IsVainIn sets ignore budget tree line

-- nor are those whose last character that isn't a blank is none of these
abbrev pub IsLastNeeded : Sets → Bool → ℕ → PatternTree → OneOf → Type 0
IsLastNeeded sets ignore budget tree need =
    (line : List ℕ) → length line ≤ need.most → (c : ℕ) → IsLastOf line c → holds need.characters c ≡ false →
    IsVainIn sets ignore budget tree line

pub record IsLineNeedOf (sets : Sets) (ignore : Bool) (budget : ℕ) (tree : PatternTree) (need : LineNeed) : Type 0 where
  pub any : IfSome need.any (IsOneNeeded sets ignore budget tree)
  pub second : IsSecondNeeded sets ignore budget tree need.second
  pub last : IsLastNeeded sets ignore budget tree need.last

-- ---- what two patterns need

-- what needs the one needs the other
abbrev pub IsWiderNeed : OneOf → OneOf → Type 0
IsWiderNeed need more =
    (more.most ≤ need.most) × ((c : ℕ) → holds need.characters c ≡ true → holds more.characters c ≡ true)

abbrev pub IsSomeWider : Option OneOf → OneOf → Type 0
IsSomeWider need more = (one : OneOf) × ((need ≡ Some one) × IsWiderNeed one more)
