-- What an atom that is a text answers: where the pieces lead, and the lines up to the one in which they
-- end, or fail to stand.
use Rattle.std.specs.Prelude.{◌≡◌, List, IfSome}
use Rattle.syn_base.specs.declared.places.Place.{Place}
use Rattle.match_rules.specs.Ways.{Context, IsPlaceOf}
use Rattle.match_rules.specs.Atoms.{Piece, behind_pieces, last_line_of, lines_from}
use Rattle.pattern_match.specs.declared.atoms.Tried.{Tried}

pub record IsTriedOver (x : Context) (pieces : List Piece) (p : Place) (tried : Tried) : Type 0
  where
    pub place : tried.place ≡ behind_pieces x pieces p
    pub looked : tried.looked ≡ lines_from p.line (last_line_of x pieces p)
    pub within : IfSome tried.place (IsPlaceOf x.text)
