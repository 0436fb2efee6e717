-- Parts that stay in their line and look at it alone, whatever they take, and that take few turns.
use Rattle.std.specs.Prelude.{ℕ, zero, suc, ◌+◌, ◌*◌, Bool, true, false, ◌&&◌, not, nat_le, Option, Some, None}
use Rattle.pattern_items.specs.declared.atom.Atom.{Atom}
use Rattle.pattern_items.specs.declared.atom.Atom.TheVariants.{LineStart, LineStop, WordStart, WordStop, MatchStart, MatchStop}
use Rattle.vim_pattern.specs.Shape.{Shape, empty, one, seq, or, and, group, external, repeat, ahead, before, whole}
use Rattle.match_rules.specs.Counts.{is_spent}
use Rattle.pattern_screens.specs.PlainAtoms.{is_plain}

abbrev pub is_lined_atom : Atom → Bool
is_lined_atom LineStart = true
is_lined_atom LineStop = true
is_lined_atom WordStart = true
is_lined_atom WordStop = true
is_lined_atom MatchStart = true
is_lined_atom MatchStop = true
is_lined_atom a = is_plain a

-- a count of few turns: those of a larger one, and of one without a limit, aren't counted
abbrev pub is_few : Option ℕ → Bool
is_few None = false
is_few (Some most) = nat_le most 1000

-- no line end, no file atom, no reference, no look behind and no large count in it
abbrev pub is_lined : Shape → Bool
is_lined empty = true
is_lined (one a) = is_lined_atom a
is_lined (seq a b) = is_lined a && is_lined b
is_lined (or a b) = is_lined a && is_lined b
is_lined (and a b) = is_lined a && is_lined b
is_lined (group part number) = is_lined part
is_lined (external part number) = is_lined part
is_lined (repeat part least most lazy) = is_few most && is_lined part
is_lined (ahead part negative) = is_lined part
is_lined (before part negative limit) = false
is_lined (whole part) = is_lined part

-- an atom is tried before the first way
abbrev pub tries_first : Shape → Bool
tries_first empty = false
tries_first (one a) = true
tries_first (seq a b) = tries_first a
tries_first (or a b) = tries_first a
tries_first (and a b) = tries_first a
tries_first (group part number) = tries_first part
tries_first (external part number) = tries_first part
tries_first (repeat part zero most lazy) =
    not (is_spent most) && (not lazy && tries_first part)
tries_first (repeat part (suc least) most lazy) = not (is_spent most) && tries_first part
tries_first (ahead part negative) = tries_first part
tries_first (before part negative limit) = false
tries_first (whole part) = tries_first part

-- so many turns that take something, and the stop behind each
abbrev pub chain_ways : ℕ → ℕ → ℕ
chain_ways ways zero = 1
chain_ways ways (suc turns) = ways * chain_ways ways turns + 1

abbrev pub chain_cost : ℕ → ℕ → ℕ → ℕ
chain_cost ways cost zero = cost
chain_cost ways cost (suc turns) = cost + ways * chain_cost ways cost turns

abbrev pub most_turns : Option ℕ → ℕ
most_turns None = 0
most_turns (Some most) = most
