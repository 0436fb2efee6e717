-- A way is what the matcher carries along a text: where it stands, where the groups matched, and the
-- last `\zs` and `\ze` that it met.
use Rattle.std.specs.Prelude.{ℕ, ◌+◌, ◌-◌, ◌≤◌, Bool, ◌||◌, ◌&&◌, nat_lt, nat_eq, List, [], Option, Some, None, length, get_or, replicate, set}
use Rattle.char_class.specs.declared.sets.Sets.{Sets}
use Rattle.syn_base.specs.declared.places.Place.{Place}

-- a text's lines
abbrev pub Text : Type 0
Text = List (List ℕ)

-- what a pattern is tried against: a text, whether case is ignored, the sets of the classes, and the
-- nine texts of `\z1` to `\z9`
pub record Context : Type 0 where
  pub text : Text
  pub ignore : Bool
  pub sets : Sets
  pub externals : List (List ℕ)

-- the places between which a group matched, if it did
abbrev pub Capture : Type 0
Capture = Option (Place × Place)

pub record Way : Type 0 where
  pub at : Place
  pub captures : List Capture
  pub externals : List Capture
  pub start : Option Place
  pub stop : Option Place

-- the way at the place where an attempt starts
abbrev pub way_from : Place → Way
way_from p = record {
  at = p;
  captures = replicate 9 None;
  externals = replicate 9 None;
  start = None;
  stop = None;
}

-- the capture of a group, from 1
abbrev pub capture_of : List Capture → ℕ → Capture
capture_of captures number = get_or captures (number - 1) None

abbrev pub with_capture : List Capture → ℕ → Place → Place → List Capture
with_capture captures number from to = set captures (number - 1) (Some (from, to))

-- ---- places

-- a line's characters; a line that isn't there has none
abbrev pub line_at : Text → ℕ → List ℕ
line_at text l = get_or text l []

-- a place of the text; the line behind the last has the one place at column 0
pub record IsPlaceOf (text : Text) (p : Place) : Type 0 where
  pub line : p.line ≤ length text
  pub col : p.col ≤ length (line_at text p.line)

abbrev pub place : ℕ → ℕ → Place
place line col = record { line = line; col = col }

abbrev pub is_after : Place → Place → Bool
is_after p q = nat_lt q.line p.line || (nat_eq q.line p.line && nat_lt q.col p.col)

abbrev pub is_same_place : Place → Place → Bool
is_same_place p q = nat_eq p.line q.line && nat_eq p.col q.col

-- the place behind a character
abbrev pub behind_character : Place → Place
behind_character p = place p.line (p.col + 1)

-- the place behind a line end
abbrev pub behind_line_end : Place → Place
behind_line_end p = place (p.line + 1) 0
