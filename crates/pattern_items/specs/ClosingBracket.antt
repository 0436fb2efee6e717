-- Where a collection ends, by places: at its first closing bracket that stands neither in front,
-- nor behind a backslash that takes
-- it along, nor in a class name (Vim's help, /[]). A place is the number of a character, from 0.
use Rattle.std.specs.Prelude.{◌≡◌, ℕ, zero, suc, ◌+◌, ◌<◌, ◌≤◌, ◌==◌, ◌&&◌, not, List, length, drop, slice_index, Some, Bool, false, if◌then◌else◌}
use Rattle.pattern_items.specs.Characters.{char}
use Rattle.pattern_items.specs.declared.class_names.ClassName.{ClassName}
use Rattle.pattern_items.specs.ClassNames.{word, name_at}

-- whether this character stands at a place
abbrev pub stands : List ℕ → ℕ → ℕ → Bool
stands text place c = slice_index text place == c

-- a backslash that no other takes along takes the next character along
abbrev pub is_taken : List ℕ → ℕ → Bool
is_taken text zero = false
is_taken text (suc place) = stands text place (char "\\") && not (is_taken text place)

-- behind the collection's bracket a caret may stand, and then a closing bracket in front
abbrev pub behind : List ℕ → ℕ → ℕ → ℕ
behind text c place = if stands text place c then suc place else place

-- the place behind these, for the collection whose bracket stands at a place
abbrev pub inside : List ℕ → ℕ → ℕ
inside text at = behind text (char "]") (behind text (char "^") (suc at))

-- a class name begins at a bracket that isn't taken along
pub record BeginsName (text : List ℕ) (from : ℕ) (start : ℕ) (name : ClassName) : Type 0 where
  pub within : from ≤ start
  pub bracket : slice_index text start ≡ char "["
  pub free : is_taken text start ≡ false
  pub named : name_at (drop (suc start) text) ≡ Some name

-- and goes on as long as its word does
abbrev pub IsInName : List ℕ → ℕ → ℕ → Type 0
IsInName text from place =
    (start : ℕ) × (name : ClassName)
    × BeginsName text from start name × (start < place) × (place ≤ start + length (word name))

-- whether a collection may end at a place
pub record MayEnd (text : List ℕ) (at : ℕ) (place : ℕ) : Type 0 where
  pub behind_front : inside text at ≤ place
  pub bracket : slice_index text place ≡ char "]"
  pub free : is_taken text place ≡ false
  pub no_name : IsInName text (inside text at) place → ⊥

-- the first such place ends the collection
pub record Ends (text : List ℕ) (at : ℕ) (place : ℕ) : Type 0 where
  pub opens : slice_index text at ≡ char "["
  pub may_end : MayEnd text at place
  pub first : (before : ℕ) → before < place → MayEnd text at before → ⊥

-- where there is none, no place ends what a bracket would begin
abbrev pub HasNoEnd : List ℕ → ℕ → Type 0
HasNoEnd text at = slice_index text at ≡ char "[" → (place : ℕ) → MayEnd text at place → ⊥
