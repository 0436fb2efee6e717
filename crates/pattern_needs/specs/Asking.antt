-- What the code knows of a part's needs when it asks for a character.
use Rattle.std.specs.Prelude.{◌≡◌, ◌<◌, ℕ, Bool, true, false, ◌&&◌, ◌||◌, not, List, [], Option, Some, None, is_some, if◌then◌else◌}
use Rattle.char_class.specs.Bits.{has_code}
use Rattle.char_class.specs.declared.codes.Codes.{Codes}
use Rattle.char_class.specs.declared.sets.Sets.{Sets}
use Rattle.pattern_items.specs.declared.atom.Atom.{Atom}
use Rattle.pattern_needs.specs.Needs.{are_characters, some_takes}
use Rattle.pattern_needs.specs.declared.asked.Asked.{Asked}

-- of atoms, where they are known
abbrev pub asked_of : Sets → Bool → ℕ → Option (List Atom) → Option Asked
asked_of sets ignore c None = None
asked_of sets ignore c (Some atoms) =
    Some (record { takes = some_takes sets ignore atoms c; characters = are_characters atoms })

-- whether of two lists of which both are needed the first is looked for
abbrev pub comes_first : Option Asked → Option Asked → Bool
comes_first None o = false
comes_first (Some first) None = true
comes_first (Some first) (Some second) = first.characters && not second.characters

abbrev pub rather_asked : Option Asked → Option Asked → Option Asked
rather_asked first second = if comes_first first second then first else second

abbrev pub both_asked : Asked → Asked → Asked
both_asked a b = record {
  takes = a.takes || b.takes;
  characters = a.characters && b.characters;
}

abbrev pub either_asked : Option Asked → Option Asked → Option Asked
either_asked (Some a) (Some b) = Some (both_asked a b)
either_asked None b = None
either_asked (Some a) None = None

abbrev pub atoms_in : Option (List Atom) → List Atom
atoms_in None = []
atoms_in (Some atoms) = atoms

-- they are known, and this is a table of the characters below 256 that they take
pub record IsReady (sets : Sets) (ignore : Bool) (o : Option (List Atom)) (table : Codes) : Type 0 where
  pub known : is_some o ≡ true
  pub low : (c : ℕ) → c < 256 → has_code table c ≡ some_takes sets ignore (atoms_in o) c
