-- Ends that begin with the text of an external (`\z1`), and where they can't begin.
use Rattle.std.specs.Prelude.{◌≡◌, ℕ, ◌-◌, Bool, true, false, nat_eq, not, List, [], Option, Some, None, get_or, slice_get, if◌then◌else◌}
use Rattle.char_class.specs.Folds.{is_same}
use Rattle.pattern_items.specs.declared.atom.Atom.{Atom}
use Rattle.pattern_items.specs.declared.atom.Atom.TheVariants.{ExternalRef}
use Rattle.vim_pattern.specs.Shape.{Shape, one, seq, group}
use Rattle.match_rules.specs.Attempt.{ignores_case}
use Rattle.syntax_set.specs.declared.item.Pattern.{Pattern}
use Rattle.region_ends.specs.declared.opening.Opening.{Opening}
use Rattle.region_ends.specs.declared.opening.Opening.TheVariants.{Nothing, With, Unknown}

-- the number of the external that an atom refers to
abbrev pub external_of : Atom → Option ℕ
external_of (ExternalRef number) = Some number
external_of _ = None

-- the number of the external with whose text each match of a part begins
abbrev pub first_external : Shape → Option ℕ
first_external (one a) = external_of a
first_external (seq a b) = first_external a
first_external (group part number) = first_external part
first_external _ = None

-- the same of a pattern that begins at the column at which it is tried (`lc`)
abbrev pub begins_with : Pattern → Option ℕ
begins_with pattern = if nat_eq pattern.lc 0 then first_external pattern.tree.node else None

-- the first character of the text of an external
abbrev pub first_of : List (List ℕ) → ℕ → Option ℕ
first_of externals number = slice_get (get_or externals (number - 1) []) 0

-- a character stands where this one does, or none at the line's end
abbrev pub stands : ℕ → Bool → Option ℕ → Bool
stands c ignore None = false
stands c ignore (Some d) = is_same c d ignore

-- ---- what is known of some ends

-- what is known is so of an end
abbrev pub IsToldOf : List (List ℕ) → Bool → Opening → Pattern → Type 0
IsToldOf externals ignore Nothing pattern = begins_with pattern ≡ None
IsToldOf externals ignore (With c asked) pattern = (number : ℕ) → begins_with pattern ≡ Some number →
    (first_of externals number ≡ Some c) × (ignores_case pattern.tree ignore ≡ asked)
IsToldOf externals ignore Unknown pattern = Unit {0}

-- by what is known, none of the ends that begin so can begin here
abbrev pub is_unopened : Opening → Option ℕ → Bool
is_unopened Nothing next = true
is_unopened (With c ignore) next = not (stands c ignore next)
is_unopened Unknown next = false
