-- What a part costs at most that stays in its line: how many ticks it takes, and what follows each of its ways.
use Rattle.std.specs.Prelude.{ℕ, zero, suc, ◌+◌, ◌-◌, Bool, true, false, ◌&&◌, not, nat_lt, Option, Some, None, if◌then◌else◌}
use Rattle.vim_pattern.specs.Shape.{Shape, empty, one, seq, or, and, group, external, repeat, ahead, before, whole}
use Rattle.vim_pattern.specs.Tree.{PatternTree}
use Rattle.pattern_screens.specs.Lined.{is_few, is_lined_atom}

-- no line end, no file atom, no reference and no look behind is in it
abbrev pub stays : Shape → Bool
stays empty = true
stays (one a) = is_lined_atom a
stays (seq a b) = stays a && stays b
stays (or a b) = stays a && stays b
stays (and a b) = stays a && stays b
stays (group part number) = stays part
stays (external part number) = stays part
stays (repeat part least most lazy) = stays part
stays (ahead part negative) = stays part
stays (before part negative limit) = false
stays (whole part) = stays part

-- what is tried from a place on, by how many characters of the line are left there
abbrev pub Cost : Type 0
Cost = ℕ → ℕ

abbrev pub nothing : Cost
nothing left = 0

-- ---- counts of a part, by what it costs with what follows

-- so many turns, of which so many may be left out
abbrev pub limited : (Cost → Cost) → ℕ → ℕ → Cost → Cost
limited part free zero rest = rest
limited part free (suc turns) rest =
    λ left. part (limited part free turns rest) left + (if nat_lt turns free then rest left else 0)

-- as many as there are: behind each turn there are fewer characters left
abbrev pub endless : (Cost → Cost) → Cost → Cost
endless part rest zero = part nothing 0 + rest 0
endless part rest (suc left) = part (λ _. endless part rest left) (suc left) + rest (suc left)

-- a turn that has to be taken may take nothing: then it stands for all of those
abbrev pub unlimited : (Cost → Cost) → ℕ → Cost → Cost
unlimited part zero rest = endless part rest
unlimited part (suc least) rest = λ left. part (λ _. endless part rest left) left

abbrev pub counted : (Cost → Cost) → ℕ → Option ℕ → Cost → Cost
counted part least None rest = unlimited part least rest
counted part least (Some most) rest =
    if is_few (Some most) then limited part (most - least) most rest else unlimited part least rest

-- ---- parts

-- what a part costs, where this is what follows it
abbrev pub cost_of : Shape → Cost → Cost
cost_of empty rest = rest
cost_of (one a) rest = λ left. suc (rest left)
cost_of (seq a b) rest = cost_of a (cost_of b rest)
cost_of (or a b) rest = λ left. cost_of a rest left + cost_of b rest left
cost_of (and a b) rest = λ left. cost_of a nothing left + cost_of b rest left
cost_of (group part number) rest = cost_of part rest
cost_of (external part number) rest = cost_of part rest
cost_of (repeat part least most lazy) rest = counted (cost_of part) least most rest
cost_of (ahead part negative) rest = λ left. cost_of part nothing left + rest left
cost_of (before part negative limit) rest = rest
cost_of (whole part) rest = λ left. cost_of part nothing left + rest left

-- ---- a budget

-- in a line of at most so many characters an attempt stays in it and costs no more than a budget
abbrev pub is_cheap_in : ℕ → ℕ → PatternTree → Bool
is_cheap_in most budget tree = stays tree.node && not (nat_lt budget (cost_of tree.node nothing most))
