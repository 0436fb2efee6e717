-- The places from which a look behind still tries its part.
use Rattle.std.specs.Prelude.{ℕ, zero, suc, Bool, true, false, List, [], ◌++◌, Some, None}
use Rattle.syn_base.specs.declared.places.Place.{Place}
use Rattle.match_rules.specs.Ways.{Text, IsPlaceOf}
use Rattle.match_rules.specs.Looks.{columns_back, line_before, within}
use Rattle.pattern_match.specs.declared.behind.Starts.{Starts}

-- the line before, unless the places are in it already
abbrev pub before_too : Text → Bool → ℕ → List Place
before_too text true line = []
before_too text false line = line_before text line

abbrev pub starts_left : Text → Starts → List Place
starts_left text s =
    elim s.next [
      | None ↦ []
      | Some p ↦ within s.limit
          (columns_back p.line p.col ++ before_too text s.line_before p.line)
    ]

-- the places before one, which is the first of its own
abbrev pub columns_before : ℕ → ℕ → List Place
columns_before line zero = []
columns_before line (suc col) = columns_back line col

abbrev pub places_before : Text → Bool → Place → List Place
places_before text done p = columns_before p.line p.col ++ before_too text done p.line

abbrev pub AreStarts : Text → Starts → Type 0
AreStarts text s = elim s.next [ None ↦ Unit {0} | Some p ↦ IsPlaceOf text p ]
