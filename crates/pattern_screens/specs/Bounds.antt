-- How many ways and ticks a part has at most: at a column where it takes nothing, and an atom that would
-- have to take something has no way; or wherever it stands, if it stays in its line whatever it takes.
use Rattle.std.specs.Prelude.{ℕ, zero, suc, ◌+◌, ◌*◌, Bool, true, false, ◌||◌, Option, if◌then◌else◌}
use Rattle.pattern_items.specs.declared.atom.Atom.{Atom}
use Rattle.pattern_items.specs.declared.atom.Atom.TheVariants.{Char, Any, Is, Set, LineEnd}
use Rattle.vim_pattern.specs.Shape.{Shape, empty, one, seq, or, and, group, external, repeat, ahead, before, whole}
use Rattle.vim_pattern.specs.Tree.{PatternTree}
use Rattle.match_rules.specs.Counts.{is_spent}
use Rattle.pattern_screens.specs.Lined.{is_lined, chain_ways, chain_cost, most_turns}
use Rattle.pattern_screens.specs.declared.bounds.Bound.{Bound}

-- one way, at no cost
abbrev pub one_way : Bound
one_way = record { ways = 1; cost = 0 }

abbrev pub atom_ways : Bool → Atom → ℕ
atom_ways false (Char c) = 0
atom_ways false (Any takes_end) = 0
atom_ways false (Is class negative takes_end) = 0
atom_ways false (Set ranges) = 0
atom_ways false LineEnd = 0
atom_ways taking _ = 1

-- a part, and another behind each of its ways
abbrev pub then_bound : Bound → Bound → Bound
then_bound a b = record { ways = a.ways * b.ways; cost = a.cost + a.ways * b.cost }

-- one part or another
abbrev pub or_bound : Bound → Bound → Bound
or_bound a b = record { ways = a.ways + b.ways; cost = a.cost + b.cost }

-- what is tried up to the first way
abbrev pub first_bound : Bound → Bound
first_bound part = record { ways = 1; cost = part.cost }

-- so many turns that take something, and the stop behind each
abbrev pub chain_of : Bound → ℕ → Bound
chain_of part turns = record {
  ways = chain_ways part.ways turns;
  cost = chain_cost part.ways part.cost turns;
}

-- one turn more, before the others, and the stop
abbrev pub one_turn_more : Bound → Bound → Bound
one_turn_more part all = record {
  ways = part.ways * all.ways + 1;
  cost = part.cost + part.ways * all.cost;
}

-- behind each way of a forced turn that takes nothing another turn may be tried in vain
abbrev pub turn_bound : ℕ → Bound → Bound
turn_bound zero part = first_bound part
turn_bound (suc least) part = record { ways = part.ways; cost = part.cost + part.ways * part.cost }

abbrev pub count_bound : Bool → ℕ → Option ℕ → Bound → Bound
count_bound true least most part = chain_of part (suc (most_turns most))
count_bound false least most part = if is_spent most then one_way else turn_bound least part

-- by whether the part may take something. The part of a look may, where it stays in its line
abbrev pub bound_of : Bool → Shape → Bound
bound_of taking empty = one_way
bound_of taking (one a) = record { ways = atom_ways taking a; cost = 1 }
bound_of taking (seq a b) = then_bound (bound_of taking a) (bound_of taking b)
bound_of taking (or a b) = or_bound (bound_of taking a) (bound_of taking b)
bound_of taking (and a b) =
    then_bound (first_bound (bound_of (taking || is_lined a) a)) (bound_of taking b)
bound_of taking (group part number) = bound_of taking part
bound_of taking (external part number) = bound_of taking part
bound_of taking (repeat part least most lazy) =
    count_bound taking least most (bound_of taking part)
bound_of taking (ahead part negative) = first_bound (bound_of (taking || is_lined part) part)
bound_of taking (before part negative limit) = one_way
bound_of taking (whole part) = first_bound (bound_of taking part)

-- what an attempt costs at most where the screen of its pattern fails
abbrev pub most_cost : Shape → ℕ
most_cost node = (bound_of false node).cost

abbrev pub failing_cost : PatternTree → ℕ
failing_cost tree = most_cost tree.node
