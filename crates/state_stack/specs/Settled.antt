-- Frames that are the same before every further line.
use Rattle.std.specs.Prelude.{Bool, true, false, ◌&&◌, List, [], ◌∷◌, Option, Some, None}
use Rattle.paint_rules.specs.Frames.{Frame}
use Rattle.paint_rules.specs.declared.Spot.{Spot}
use Rattle.paint_rules.specs.declared.Spot.TheVariants.{Past, At}

abbrev pub is_past : Spot → Bool
is_past Past = true
is_past (At _ _) = false

abbrev pub is_past_end : Option Spot → Bool
is_past_end None = true
is_past_end (Some s) = is_past s

-- each of its spots is past, or none
abbrev pub is_settled : Frame → Bool
is_settled f =
    is_past f.high_from && (is_past f.search && (is_past_end f.known_end && (is_past_end f.high_to && (is_past_end f.area_end && is_past_end f.area_high))))

abbrev pub all_settled : List Frame → Bool
all_settled [] = true
all_settled (f ∷ fs) = is_settled f && all_settled fs
