-- The last of a line's characters that aren't blanks, and of those before a place.
use Rattle.std.specs.Prelude.{◌≡◌, ◌⊎◌, ◌<◌, ℕ, Bool, true, false, List, Some, slice_get, length}
use Rattle.char_class.specs.declared.sets.Sets.{Sets}
use Rattle.syn_base.specs.declared.places.Place.{Place}
use Rattle.pattern_items.specs.declared.atom.Atom.TheVariants.{LineEnd, LineStop}
use Rattle.vim_pattern.specs.Shape.{Shape, one}
use Rattle.match_rules.specs.Ways.{Context, Way, line_at}
use Rattle.match_rules.specs.Visits.{visits}
use Rattle.match_rules.proofs.MarkLaws.{AllWays}
use Rattle.pattern_needs.specs.Characters.{holds}
use Rattle.pattern_needs.specs.Fronts.{piece, stopped}
use Rattle.pattern_needs.specs.Nonblanks.{is_blank}
use Rattle.pattern_needs.specs.declared.characters.Characters.{Characters}
use Rattle.pattern_needs.specs.declared.ending.Ended.{Ended}

-- the last of a line's characters before a column that aren't blanks, and its own column
pub record IsLastBefore (line : List ℕ) (col c at : ℕ) : Type 0 where
  pub there : slice_get line at ≡ Some c
  pub nonblank : is_blank c ≡ false
  pub before : at < col
  pub between : (i d : ℕ) → at < i → i < col → slice_get line i ≡ Some d → is_blank d ≡ true

-- the last of a line's characters that aren't blanks
abbrev pub IsLastOf : List ℕ → ℕ → Type 0
IsLastOf line c = (at : ℕ) × IsLastBefore line (length line) c at

-- of a place in a line: the last before it that isn't a blank, if there is one, is among some
abbrev pub EndsAmong : Context → ℕ → Characters → Place → Type 0
EndsAmong x l some p =
    p.line ≡ l → (c at : ℕ) → IsLastBefore (line_at x.text l) p.col c at → holds some c ≡ true

-- from ways that end among the ones a part leads to ways that end among the others
abbrev pub LeadsAmong : Sets → Bool → Shape → Characters → Characters → Type 0
LeadsAmong sets ignore node from to =
    (x : Context) (l : ℕ) → x.sets ≡ sets → x.ignore ≡ ignore →
    (w : Way) → EndsAmong x l from w.at → AllWays (λ v. EndsAmong x l to v.at) (visits x node w)

-- each character of the ones is one of the others
abbrev pub IsAmong : Characters → Characters → Type 0
IsAmong some more = (c : ℕ) → holds some c ≡ true → holds more c ≡ true

-- no way of a part stays in a line whose last that isn't a blank is none of these
abbrev pub LeavesLine : Sets → Bool → Shape → Characters → Type 0
LeavesLine sets ignore node characters =
    (x : Context) (l c : ℕ) → x.sets ≡ sets → x.ignore ≡ ignore → IsLastOf (line_at x.text l) c → holds characters c ≡ false →
    (w : Way) → AllWays (λ v. v.at.line ≡ l → ⊥) (visits x node w)

-- a line end, or the place before it
abbrev pub IsEndOfLine : Shape → Type 0
IsEndOfLine node = (node ≡ one LineEnd) ⊎ (node ≡ one LineStop)

-- the piece of a number stands at a line's end, to which the pieces before it don't come in a line whose last
-- that isn't a blank is none of these
pub record IsLastTold (sets : Sets) (ignore : Bool) (node : Shape) (told : Ended) : Type 0 where
  pub ends : IsEndOfLine (piece node told.number)
  pub last : LeavesLine sets ignore (stopped node told.number) told.characters
