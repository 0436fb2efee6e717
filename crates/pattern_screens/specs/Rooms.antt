-- Parts that stay in a line of at most so many characters: how many ways and ticks they have at most.
use Rattle.std.specs.Prelude.{ℕ, suc, ◌+◌, ◌*◌, ◌&&◌, ◌||◌, nat_eq, nat_lt, Option, Some, None, if◌then◌else◌}
use Rattle.vim_pattern.specs.Shape.{Shape, empty, one, seq, or, and, group, external, repeat, ahead, before, whole}
use Rattle.pattern_screens.specs.Bounds.{chain_of, first_bound, or_bound, then_bound}
use Rattle.pattern_screens.specs.Lined.{is_few, is_lined_atom}
use Rattle.pattern_screens.specs.declared.bounds.Bound.{Bound}

-- the bound of two parts by that of each
abbrev pub both_rooms : (Bound → Bound → Bound) → Option Bound → Option Bound → Option Bound
both_rooms join (Some a) (Some b) = Some (join a b)
both_rooms join None b = None
both_rooms join (Some a) None = None

-- what is tried of a part up to its first way
abbrev pub first_room : Option Bound → Option Bound
first_room None = None
first_room (Some a) = Some (first_bound a)

-- a look, and what follows it
abbrev pub look_then : Bound → Bound → Bound
look_then a b = then_bound (first_bound a) b

-- a count without a limit has a turn at each column but the end's, and one more that is forced; of any
-- other each turn may stop
abbrev pub turns_room : ℕ → ℕ → Option ℕ → Bound → Option Bound
turns_room most least None a =
    if nat_lt 1 least || nat_lt 1 a.ways then None
    else Some (record { ways = most + 1; cost = (most + 2) * a.cost })
turns_room most least (Some turns) a =
    if nat_eq least 0 && nat_eq turns 1 then Some (record { ways = a.ways + 1; cost = a.cost })
    else if is_few (Some turns)
    then Some (chain_of a (suc turns))
    else None

abbrev pub counted_room : ℕ → ℕ → Option ℕ → Option Bound → Option Bound
counted_room most least turns None = None
counted_room most least turns (Some a) = turns_room most least turns a

-- none where the part may leave its line, or where it isn't counted here
abbrev pub room_of : ℕ → Shape → Option Bound
room_of most empty = Some (record { ways = 1; cost = 0 })
room_of most (one a) = if is_lined_atom a then Some (record { ways = 1; cost = 1 }) else None
room_of most (seq a b) = both_rooms then_bound (room_of most a) (room_of most b)
room_of most (or a b) = both_rooms or_bound (room_of most a) (room_of most b)
room_of most (and a b) = both_rooms look_then (room_of most a) (room_of most b)
room_of most (group part number) = room_of most part
room_of most (external part number) = room_of most part
room_of most (repeat part least turns lazy) = counted_room most least turns (room_of most part)
room_of most (ahead part negative) = first_room (room_of most part)
room_of most (before part negative limit) = None
room_of most (whole part) = first_room (room_of most part)
