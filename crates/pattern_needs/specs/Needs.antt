-- What the ways of a pattern need: each takes a character that one of some atoms takes.
use Rattle.std.specs.Prelude.{ℕ, Bool, true, false, ◌&&◌, not, List, [], ◌∷◌, Option, Some, None, drop, if◌then◌else◌}
use Rattle.std.specs.List.{list_any}
use Rattle.char_class.specs.declared.sets.Sets.{Sets}
use Rattle.pattern_items.specs.declared.atom.Atom.{Atom}
use Rattle.pattern_items.specs.declared.atom.Atom.TheVariants.{Char}
use Rattle.vim_pattern.specs.Shape.{Shape, empty, one, seq, or, and, group, external, repeat, ahead, before, whole}
use Rattle.pattern_screens.specs.FirstAtoms.{both_lists, is_forced}
use Rattle.pattern_screens.specs.PlainAtoms.{is_plain, plain_takes}

abbrev pub is_character : Atom → Bool
is_character (Char c) = true
is_character _ = false

abbrev pub are_characters : List Atom → Bool
are_characters [] = true
are_characters (a ∷ atoms) = is_character a && are_characters atoms

-- of two lists of which both are needed: the second, but for single characters, which fewer lines hold
abbrev pub rarer : List Atom → List Atom → List Atom
rarer first second = if are_characters first && not (are_characters second) then first else second

abbrev pub rather : Option (List Atom) → Option (List Atom) → Option (List Atom)
rather None o = o
rather (Some first) None = Some first
rather (Some first) (Some second) = Some (rarer first second)

-- the atoms of which each way takes one; none where they aren't known
abbrev pub needed : Shape → Option (List Atom)
needed empty = None
needed (one a) = if is_plain a then Some (a ∷ []) else None
needed (seq a b) = rather (needed a) (needed b)
needed (or a b) = both_lists (needed a) (needed b)
needed (and a b) = rather (needed a) (needed b)
needed (group part number) = needed part
needed (external part number) = needed part
needed (repeat part least most lazy) = if is_forced least most then needed part else None
needed (ahead part negative) = if negative then None else needed part
needed (before part negative limit) = None
needed (whole part) = needed part

abbrev pub some_takes : Sets → Bool → List Atom → ℕ → Bool
some_takes sets ignore atoms c = list_any (λ a. plain_takes sets ignore a c) atoms

-- no character of the line from a column on is taken by one of the atoms
abbrev pub lacks : Sets → Bool → List ℕ → ℕ → List Atom → Bool
lacks sets ignore line col atoms = not (list_any (some_takes sets ignore atoms) (drop col line))
