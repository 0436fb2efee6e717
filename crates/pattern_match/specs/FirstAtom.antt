-- The atom that every attempt of a pattern tries first. Where it doesn't fit, it is the one tick of the
-- attempt.
use Rattle.std.specs.Prelude.{ℕ, Bool, ◌&&◌, not, nat_lt, Option, Some, None, if◌then◌else◌}
use Rattle.pattern_items.specs.declared.atom.Atom.{Atom}
use Rattle.vim_pattern.specs.Shape.{Shape, one, seq, group, external, repeat}
use Rattle.match_rules.specs.Counts.{is_spent}

-- a count that has to take a turn
abbrev pub is_forced : ℕ → Option ℕ → Bool
is_forced least most = nat_lt 0 least && not (is_spent most)

abbrev pub first_atom : Shape → Option Atom
first_atom (one a) = Some a
first_atom (seq a b) = first_atom a
first_atom (group part number) = first_atom part
first_atom (external part number) = first_atom part
first_atom (repeat part least most lazy) = if is_forced least most then first_atom part else None
first_atom _ = None
