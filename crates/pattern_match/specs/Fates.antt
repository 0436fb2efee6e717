-- What a node comes to, whatever the text is and wherever it is tried. Atoms alone move a way or ask
-- the text, so what happens before the first of them is settled when the pattern is made ready.
use Rattle.std.specs.Prelude.{ℕ, Bool, true, false, ◌&&◌, ◌||◌, Option, if◌then◌else◌}
use Rattle.vim_pattern.specs.Shape.{Shape, empty, one, seq, or, and, group, external, repeat, ahead, before, whole}
use Rattle.match_rules.specs.Counts.{is_spent, less_by}
use Rattle.pattern_match.specs.FirstAtom.{is_forced}
use Rattle.pattern_match.specs.declared.fate.Fate.{Fate}
use Rattle.pattern_match.specs.declared.fate.Fate.TheVariants.{Never, Stays, Passes, Opens, Tries}

-- of two parts, the one behind the other
abbrev pub behind : Fate → Fate → Fate
behind Never second = Never
behind Stays second = second
behind Passes Stays = Passes
behind Passes second = second
behind Opens Stays = Opens
behind Opens Passes = Opens
behind Opens Opens = Opens
behind Opens second = Tries
behind Tries second = Tries

-- the one or the other
abbrev pub either : Fate → Fate → Fate
either Never second = second
either Tries second = Tries
either Opens second = Opens
either first Tries = Opens
either first Opens = Opens
either first Never = first
either first second = Passes

-- a count stops as soon as it may: a lazy one, and one that may take no turns but those that are forced
abbrev pub stops_first : ℕ → Option ℕ → Bool → Bool
stops_first least most lazy = lazy || (is_forced least most && is_spent (less_by most least))

-- a count that may take a turn, and has to or not, and stops as soon as it may or not: a turn that takes
-- nothing is none, and stands for all that are forced
abbrev pub counted : Fate → (forced stops : Bool) → Fate
counted Tries false true = Opens
counted Tries forced stops = Tries
counted Opens forced true = Opens
counted Opens forced stops = Tries
counted part true stops = part
counted part false stops = Stays

-- the first way of a part alone
abbrev pub first_of : Fate → Fate
first_of Opens = Passes
first_of part = part

abbrev pub looked : Fate → Bool → Fate
looked Tries negative = Tries
looked part false = first_of part
looked Never true = Stays
looked part true = Never

-- a group is its part and then a note, which moves nothing
abbrev pub fate_of : Shape → Fate
fate_of empty = Stays
fate_of (one a) = Tries
fate_of (seq a b) = behind (fate_of a) (fate_of b)
fate_of (or a b) = either (fate_of a) (fate_of b)
fate_of (and a b) = behind (looked (fate_of a) false) (fate_of b)
fate_of (group part number) = behind (fate_of part) Passes
fate_of (external part number) = behind (fate_of part) Passes
fate_of (repeat part least most lazy) =
    if is_spent most then Stays
    else counted (fate_of part) (is_forced least most) (stops_first least most lazy)
fate_of (ahead part negative) = looked (fate_of part) negative
fate_of (before part negative limit) = looked (fate_of part) negative
fate_of (whole part) = first_of (fate_of part)

-- no atom is tried, and there is a way
abbrev pub passes : Fate → Bool
passes Stays = true
passes Passes = true
passes _ = false

-- a choice between two parts that pass; between others there is none, so it has a number that no group
-- has
abbrev pub choice : Shape → Shape → Shape
choice a b = if passes (fate_of a) && passes (fate_of b) then or a b else group empty 0
