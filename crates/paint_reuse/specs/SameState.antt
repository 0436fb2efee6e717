-- Whether two states are the same: each frame as the other's, field by field, and the same item waits.
use Rattle.std.specs.Prelude.{◌≡◌, ◌==◌, ◌&&◌, Bool, true, false, nat_eq}
use Rattle.std.specs.Bool.{Decides, beq}
use Rattle.std.specs.Cmp.Lexicographic.{pointwise}
use Rattle.std.specs.Option.{option_eq}
use Rattle.syn_base.specs.declared.places.GroupId.{GroupId}
use Rattle.paint_rules.specs.Frames.{Frame}
use Rattle.paint_rules.specs.States.{State}
use Rattle.paint_rules.specs.declared.Part.{Part}
use Rattle.paint_rules.specs.declared.Part.TheVariants.{Body, StartArea, EndArea, Keyword}
use Rattle.paint_rules.specs.declared.Spot.{Spot}
use Rattle.paint_rules.specs.declared.Spot.TheVariants.{Past, At}
use Rattle.paint_rules.specs.declared.Waiting.{Waiting}

abbrev pub same_spot : Spot → Spot → Bool
same_spot Past Past = true
same_spot (At k c) (At l d) = (k == l) && (c == d)
same_spot _ _ = false

abbrev pub same_part : Part → Part → Bool
same_part Body Body = true
same_part StartArea StartArea = true
same_part EndArea EndArea = true
same_part Keyword Keyword = true
same_part _ _ = false

abbrev pub same_group : GroupId → GroupId → Bool
same_group g h = g.0 == h.0

-- the item, its part and what it shows
abbrev pub same_item : Frame → Frame → Bool
same_item f g = ((f.item).0 == (g.item).0) && (same_part f.part g.part && same_group f.shows g.shows)

-- where it ends and is highlighted, and where its end is searched
abbrev pub same_places : Frame → Frame → Bool
same_places f g =
    option_eq same_spot f.known_end g.known_end && (same_spot f.high_from g.high_from
    && (option_eq same_spot f.high_to g.high_to && same_spot f.search g.search))

-- what it knows of its end area
abbrev pub same_area : Frame → Frame → Bool
same_area f g =
    option_eq same_spot f.area_end g.area_end && (option_eq same_spot f.area_high g.area_high
    && option_eq same_group f.area_shows g.area_shows)

abbrev pub same_frame : Frame → Frame → Bool
same_frame f g =
    same_item f g && (same_places f g && (same_area f g
    && pointwise (pointwise nat_eq) f.externals g.externals))

abbrev pub same_wait : Waiting → Waiting → Bool
same_wait w v = ((w.item).0 == (v.item).0) && beq w.fresh v.fresh

unfoldable pub same_state : State → State → Bool
same_state s t = pointwise same_frame s.stack t.stack && option_eq same_wait s.waiting t.waiting

-- the law: the test passes exactly for equal states
abbrev pub EqualStatesAreTheSame : Type 0
EqualStatesAreTheSame = (s t : State) → Decides (same_state s t) (s ≡ t)
