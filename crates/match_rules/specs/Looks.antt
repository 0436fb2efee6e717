-- Looks ahead and behind (Vim's help, /\@= /\@! /\@<= /\@<!). A look tries its part up to its first
-- way, and goes on where it stood. What that way noted stays with a positive look alone.
use Rattle.std.specs.Prelude.{ℕ, zero, suc, pos, ◌-ℤ◌, ◌+◌, Bool, true, false, List, [], ◌∷◌, ◌++◌, Option, Some, None, length, take}
use Rattle.syn_base.specs.declared.looked.Looked.{Looked}
use Rattle.syn_base.specs.declared.places.Place.{Place}
use Rattle.syn_base.specs.Looked.{hull_of, one_line}
use Rattle.pattern_items.specs.declared.item.Behind.{Behind}
use Rattle.pattern_items.specs.declared.item.Behind.TheVariants.{Any, Most}
use Rattle.match_rules.specs.Ways.{Text, Way, line_at, place, is_same_place}
use Rattle.match_rules.specs.Marks.{Mark, Tick, Reach, ticks_first, first_way}

-- how a look ends, by the first way of its part
abbrev pub look_end : Bool → Way → Option Way → List Mark
look_end true w None = Reach w ∷ []
look_end true w (Some v) = []
look_end false w None = []
look_end false w (Some v) = Reach (record v { at = w.at }) ∷ []

abbrev pub look : Bool → Way → List Mark → List Mark
look negative w marks = ticks_first marks ++ look_end negative w (first_way marks)

-- ---- behind

-- the places of a line from a column backwards
abbrev pub columns_back : ℕ → ℕ → List Place
columns_back line zero = place line 0 ∷ []
columns_back line (suc col) = place line (suc col) ∷ columns_back line col

-- the places of the line before, from its end backwards
abbrev pub line_before : Text → ℕ → List Place
line_before text zero = []
line_before text (suc line) = columns_back line (length (line_at text line))

-- the nearest ones; the place itself is 0 away, and a line end counts as one character
abbrev pub within : Behind → List Place → List Place
within Any places = places
within (Most limit) places = take (limit + 1) places

-- where a look behind starts to try its part
abbrev pub starts_behind : Text → Behind → Place → List Place
starts_behind text limit p = within limit (columns_back p.line p.col ++ line_before text p.line)

abbrev pub from_each : (Way → List Mark) → Way → List Place → List Mark
from_each part w [] = []
from_each part w (p ∷ places) = part (record w { at = p }) ++ from_each part w places

-- the ways that end at a place alone
abbrev pub ending_at : Place → List Mark → List Mark
ending_at p [] = []
ending_at p (Tick looked ∷ marks) = Tick looked ∷ ending_at p marks
ending_at p (Reach w ∷ marks) =
    elim (is_same_place w.at p) [ true ↦ Reach w ∷ ending_at p marks | false ↦ ending_at p marks ]

-- each tick looks at these lines too
abbrev pub looking_at : Looked → List Mark → List Mark
looking_at more [] = []
looking_at more (Tick looked ∷ marks) = Tick (hull_of looked more) ∷ looking_at more marks
looking_at more (Reach w ∷ marks) = Reach w ∷ looking_at more marks

-- what a look behind tries and reaches, before it ends as a look; each tick looks at the line before too
abbrev pub tried_behind : Text → (Way → List Mark) → Behind → Way → List Mark
tried_behind text part limit w =
    looking_at (one_line (pos w.at.line -ℤ pos 1))
    (ending_at w.at (from_each part w (starts_behind text limit w.at)))
