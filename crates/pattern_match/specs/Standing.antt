-- What stands at a place, with the place behind it.
use Rattle.std.specs.Prelude.{◌≡◌, false, true, Some, None}
use Rattle.syn_base.specs.declared.places.Place.{Place}
use Rattle.match_rules.specs.Ways.{Text, IsPlaceOf, behind_character, behind_line_end}
use Rattle.match_rules.specs.Atoms.{character_at, is_line_end}
use Rattle.pattern_match.specs.declared.standing.Standing.{Standing}
use Rattle.pattern_match.specs.declared.standing.Standing.TheVariants.{Character, LineEnd, Nothing}

abbrev pub Stands : Text → Place → Standing → Type 0
Stands text p (Character c behind) =
    (character_at text p ≡ Some c) × (is_line_end text p ≡ false) × (behind ≡ behind_character p) ×
    IsPlaceOf text behind
Stands text p (LineEnd behind) =
    (character_at text p ≡ None) × (is_line_end text p ≡ true) × (behind ≡ behind_line_end p) ×
    IsPlaceOf text behind
Stands text p Nothing = (character_at text p ≡ None) × (is_line_end text p ≡ false)
