-- Atoms of characters alone, and whether they take a character.
use Rattle.std.specs.Prelude.{ℕ, Bool, true, false, not, Option, Some, None}
use Rattle.char_class.specs.Classes.{class_holds}
use Rattle.char_class.specs.Folds.{is_same}
use Rattle.char_class.specs.declared.sets.Sets.{Sets}
use Rattle.pattern_items.specs.declared.atom.Atom.{Atom}
use Rattle.pattern_items.specs.declared.atom.Atom.TheVariants.{Char, Any, Is, Set}
use Rattle.match_rules.specs.Atoms.{turned_round}
use Rattle.match_rules.specs.Collections.{collection_holds}

-- what stands here passes the test, or the line end is taken
abbrev pub takes : Bool → (ℕ → Bool) → Option ℕ → Bool
takes takes_end test None = takes_end
takes takes_end test (Some c) = test c

-- a character, any, a class or a collection, without a line end
abbrev pub is_plain : Atom → Bool
is_plain (Char c) = true
is_plain (Any takes_end) = not takes_end
is_plain (Is class negative takes_end) = not takes_end
is_plain (Set ranges) = not ranges.line_end
is_plain _ = false

-- whether such an atom takes a character
abbrev pub plain_takes : Sets → Bool → Atom → ℕ → Bool
plain_takes sets ignore (Char c) d = is_same c d ignore
plain_takes sets ignore (Is class negative with_end) d =
    turned_round negative (class_holds class d sets)
plain_takes sets ignore (Set ranges) d = collection_holds ranges d sets ignore
plain_takes sets ignore _ d = true

abbrev pub plain_fits : Sets → Bool → Option ℕ → Atom → Bool
plain_fits sets ignore next a = takes false (plain_takes sets ignore a) next
