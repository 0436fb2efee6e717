-- A node each way of which stands behind the place where the node was tried.
use Rattle.std.specs.Prelude.{Bool, true, false, ◌&&◌, ◌||◌}
use Rattle.pattern_items.specs.declared.atom.Atom.{Atom}
use Rattle.pattern_items.specs.declared.atom.Atom.TheVariants.{Char, Any, Is, Set, LineEnd}
use Rattle.vim_pattern.specs.Shape.{Shape, one, seq, or, and, group, external, repeat, whole}
use Rattle.pattern_match.specs.FirstAtom.{is_forced}

-- an atom that takes a character or a line end; a reference may stand for an empty text
abbrev pub atom_takes : Atom → Bool
atom_takes (Char c) = true
atom_takes (Any takes_end) = true
atom_takes (Is class negative takes_end) = true
atom_takes (Set ranges) = true
atom_takes LineEnd = true
atom_takes _ = false

abbrev pub is_taking : Shape → Bool
is_taking (one a) = atom_takes a
is_taking (seq a b) = is_taking a || is_taking b
is_taking (or a b) = is_taking a && is_taking b
is_taking (and a b) = is_taking b
is_taking (group part number) = is_taking part
is_taking (external part number) = is_taking part
is_taking (repeat part least most lazy) = is_forced least most && is_taking part
is_taking (whole part) = is_taking part
is_taking _ = false
