-- An attempt stays on the text. From a place of it, the match and its groups go from a place of the text
-- to one that isn't before it, and the lines looked at, among them that of the start, are lines of the
-- text, the one before its first, and the one behind its last.
use Rattle.std.specs.Prelude.{◌≡◌, ℕ, pos, negsuc, ◌≤ℤ◌, false, Option, Some, None, length, get_or}
use Rattle.syn_base.specs.declared.looked.Looked.{Looked}
use Rattle.syn_base.specs.declared.places.Place.{Place}
use Rattle.vim_pattern.specs.Tree.{PatternTree}
use Rattle.match_rules.specs.Ways.{Text, Context, Capture, Way, IsPlaceOf, is_after}
use Rattle.match_rules.specs.Attempt.{Answer, attempt, lines_of, match_from, match_to}

-- from a place of the text to one that isn't before it
pub record IsStretchOf (text : Text) (from to : Place) : Type 0 where
  pub begins : IsPlaceOf text from
  pub ends : IsPlaceOf text to
  pub in_order : is_after from to ≡ false

abbrev pub IsCaptureOf : Text → Capture → Type 0
IsCaptureOf text None = Unit {0}
IsCaptureOf text (Some places) = IsStretchOf text places.0 places.1

pub record IsMatchOf (text : Text) (start : Place) (w : Way) : Type 0 where
  pub whole : IsStretchOf text (match_from start w) (match_to start w)
  pub captures : (i : ℕ) → IsCaptureOf text (get_or w.captures i None)

abbrev pub IsWayOn : Text → Place → Option Way → Type 0
IsWayOn text start None = Unit {0}
IsWayOn text start (Some w) = IsMatchOf text start w

-- lines about that of the start
pub record AreLinesAbout (text : Text) (start : Place) (looked : Looked) : Type 0 where
  pub from_before_first : negsuc 0 ≤ℤ looked.low
  pub low_to_start : looked.low ≤ℤ pos start.line
  pub high_from_start : pos start.line ≤ℤ looked.high
  pub to_behind_last : looked.high ≤ℤ pos (length text)

pub record StaysOn (text : Text) (start : Place) (answer : Answer) : Type 0 where
  pub looked : AreLinesAbout text start (lines_of start answer)
  pub way : IsWayOn text start answer.way

-- the law: from a place of the text, which may be that of the line behind the last
abbrev pub StaysOnText : PatternTree → Type 0
StaysOnText tree =
    (x : Context) (start : Place) → IsPlaceOf x.text start →
    StaysOn x.text start (attempt tree x start)
