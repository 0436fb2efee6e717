-- How far the pieces of a text stand from a place on.
use Rattle.std.specs.Prelude.{true, false, List, [], ◌∷◌, Some, None}
use Rattle.syn_base.specs.declared.places.Place.{Place}
use Rattle.match_rules.specs.Ways.{Context}
use Rattle.match_rules.specs.Atoms.{Piece, behind_piece}
use Rattle.pattern_match.specs.declared.walks.Walked.{Walked}

-- the place up to which they stand, and whether all of them do
abbrev pub walked : Context → List Piece → Place → Walked
walked x [] p = record { at = p; whole = true }
walked x (piece ∷ pieces) p =
    elim (behind_piece x piece p) [
      | None ↦ record { at = p; whole = false }
      | Some q ↦ walked x pieces q
    ]

-- further pieces, where all so far stand
abbrev pub walked_on : Context → Walked → List Piece → Walked
walked_on x w pieces = elim w.whole [ true ↦ walked x pieces w.at | false ↦ w ]
