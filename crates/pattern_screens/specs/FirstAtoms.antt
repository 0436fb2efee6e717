-- The atoms that an attempt of a pattern tries first, where each of them is a character or a set of
-- characters.
use Rattle.std.specs.Prelude.{ℕ, Bool, true, ◌&&◌, not, nat_lt, List, [], ◌∷◌, ◌++◌, Option, Some, None, length, if◌then◌else◌}
use Rattle.std.specs.List.{list_any}
use Rattle.char_class.specs.declared.sets.Sets.{Sets}
use Rattle.pattern_items.specs.declared.atom.Atom.{Atom}
use Rattle.vim_pattern.specs.Shape.{Shape, one, seq, or, group, external, repeat}
use Rattle.match_rules.specs.Counts.{is_spent}
use Rattle.pattern_screens.specs.PlainAtoms.{is_plain, plain_fits}

-- a count that has to take a turn
abbrev pub is_forced : ℕ → Option ℕ → Bool
is_forced least most = nat_lt 0 least && not (is_spent most)

abbrev pub both_lists : Option (List Atom) → Option (List Atom) → Option (List Atom)
both_lists (Some a) (Some b) = Some (a ++ b)
both_lists None b = None
both_lists (Some a) None = None

-- the first atoms of a pattern; none where they aren't all given so
abbrev pub first_atoms : Shape → Option (List Atom)
first_atoms (one a) = if is_plain a then Some (a ∷ []) else None
first_atoms (seq a b) = first_atoms a
first_atoms (or a b) = both_lists (first_atoms a) (first_atoms b)
first_atoms (group part number) = first_atoms part
first_atoms (external part number) = first_atoms part
first_atoms (repeat part least most lazy) = if is_forced least most then first_atoms part else None
first_atoms _ = None

abbrev pub some_fits : Sets → Bool → Option ℕ → Option (List Atom) → Bool
some_fits sets ignore next None = true
some_fits sets ignore next (Some atoms) = list_any (plain_fits sets ignore next) atoms

abbrev pub number_of : Option (List Atom) → ℕ
number_of None = 1
number_of (Some atoms) = length atoms

-- the screen passes where one of the first atoms fits, and for each other pattern
abbrev pub first_passes : Sets → Bool → Option ℕ → Shape → Bool
first_passes sets ignore next node = some_fits sets ignore next (first_atoms node)

abbrev pub first_cost : Shape → ℕ
first_cost node = number_of (first_atoms node)
