-- The items of the frames whose end is known.
use Rattle.std.specs.Prelude.{Bool, true, false, nat_eq, ◌||◌, List, is_none}
use Rattle.std.specs.List.{list_all}
use Rattle.syn_base.specs.declared.places.ItemId.{ItemId}
use Rattle.paint_rules.specs.Frames.{Frame}
use Rattle.state_stack.specs.declared.enders.Enders.{Enders}
use Rattle.state_stack.specs.declared.enders.Enders.TheVariants.{Nothing, One, Two, Three, Many}

abbrev pub is_among : Enders → ItemId → Bool
is_among Nothing i = false
is_among (One a) i = nat_eq a.0 i.0
is_among (Two a b) i = nat_eq a.0 i.0 || nat_eq b.0 i.0
is_among (Three a b c) i = nat_eq a.0 i.0 || (nat_eq b.0 i.0 || nat_eq c.0 i.0)
is_among Many i = true

-- the frame has no known end, or is of one of these items
abbrev pub ends_by : Enders → Frame → Bool
ends_by enders f = is_none f.known_end || is_among enders f.item

-- so does each frame
abbrev pub have_enders : Enders → List Frame → Bool
have_enders enders frames = list_all (ends_by enders) frames
