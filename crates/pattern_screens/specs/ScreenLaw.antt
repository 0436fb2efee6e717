-- Where a screen fails at a column of a line, in each text with that line an attempt from there has
-- no way, its cost is within the bound, and it looks at exactly that line.
use Rattle.std.specs.Prelude.{◌≡◌, ℕ, ◌≤◌, pos, ◌-ℤ◌, Bool, true, false, None, length, if◌then◌else◌}
use Rattle.syn_base.specs.declared.looked.Looked.{Looked}
use Rattle.syn_base.specs.declared.places.Place.{Place}
use Rattle.syn_base.specs.Looked.{hull_of, one_line}
use Rattle.char_class.specs.declared.sets.Sets.{Sets}
use Rattle.vim_pattern.specs.Tree.{PatternTree}
use Rattle.match_rules.specs.Ways.{Context, place, line_at}
use Rattle.match_rules.specs.Attempt.{Answer, attempt, lines_of}
use Rattle.pattern_screens.specs.declared.key.Key.{Key}
use Rattle.pattern_screens.specs.Keys.{key_of}
use Rattle.pattern_screens.specs.Screens.{is_futile}
use Rattle.pattern_screens.specs.Bounds.{failing_cost}

-- a line and the one before
abbrev pub two_lines : ℕ → Looked
two_lines line = hull_of (one_line (pos line)) (one_line (pos line -ℤ pos 1))

abbrev pub lines_seen : Bool → ℕ → Looked
lines_seen before line = if before then two_lines line else one_line (pos line)

-- an attempt in vain
pub record IsInVain (start : Place) (bound : ℕ) (before : Bool) (answer : Answer) : Type 0
  where
    pub way : answer.way ≡ None
    pub cost : answer.cost ≤ bound
    pub looked : lines_of start answer ≡ lines_seen before start.line

-- the law at the columns with a key, where this says whether an attempt there is known to fail
abbrev pub IsSoundAt : PatternTree → Sets → Bool → Key → Bool → Type 0
IsSoundAt tree sets ignore key futile =
    (x : Context) (line col : ℕ) → futile ≡ true → x.sets ≡ sets → x.ignore ≡ ignore →
    col ≤ length (line_at x.text line) →
    key_of sets (line_at x.text line) col ≡ key →
    IsInVain (place line col) (failing_cost tree) false (attempt tree x (place line col))

abbrev pub AreSound : Type 0
AreSound =
    (tree : PatternTree) (x : Context) (line col : ℕ) → col ≤ length (line_at x.text line) →
    is_futile x.sets x.ignore (key_of x.sets (line_at x.text line) col) tree ≡ true →
    IsInVain (place line col) (failing_cost tree) false (attempt tree x (place line col))
