-- What a node tries and reaches, in order.
use Rattle.std.specs.Prelude.{List, [], ◌∷◌, ◌++◌, Option, Some, None}
use Rattle.syn_base.specs.declared.looked.Looked.{Looked}
use Rattle.match_rules.specs.Ways.{Way}

-- an atom that was tried, with the lines that it looked at, or a way that was reached
pub data Mark : Type 0 where
  Tick : (looked : Looked) → Mark
  Reach : (way : Way) → Mark

-- each way replaced by what follows from it
abbrev pub followed : List Mark → (Way → List Mark) → List Mark
followed [] next = []
followed (Tick looked ∷ marks) next = Tick looked ∷ followed marks next
followed (Reach w ∷ marks) next = next w ++ followed marks next

-- the ticks up to the first way
abbrev pub ticks_first : List Mark → List Mark
ticks_first [] = []
ticks_first (Tick looked ∷ marks) = Tick looked ∷ ticks_first marks
ticks_first (Reach w ∷ marks) = []

abbrev pub first_way : List Mark → Option Way
first_way [] = None
first_way (Tick looked ∷ marks) = first_way marks
first_way (Reach w ∷ marks) = Some w

-- one way, or none
abbrev pub reach_if : Option Way → List Mark
reach_if None = []
reach_if (Some w) = Reach w ∷ []
