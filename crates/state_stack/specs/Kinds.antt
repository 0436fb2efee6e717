-- The kinds of frames: their item, and whether they are an area of it.
use Rattle.std.specs.Prelude.{Bool, true, false, nat_eq, ◌&&◌, not, List}
use Rattle.std.specs.List.{list_all, list_any}
use Rattle.paint_rules.specs.Frames.{Frame}
use Rattle.paint_rules.specs.declared.Part.{Part}
use Rattle.paint_rules.specs.declared.Part.TheVariants.{Body, StartArea, EndArea, Keyword}
use Rattle.state_stack.specs.declared.kinds.Kind.{Kind}

abbrev pub is_area : Part → Bool
is_area Body = false
is_area StartArea = true
is_area EndArea = true
is_area Keyword = false

abbrev pub kind_of : Frame → Kind
kind_of f = record { item = f.item; in_area = is_area f.part }

abbrev pub same_truth : Bool → Bool → Bool
same_truth true b = b
same_truth false b = not b

abbrev pub same_kind : Kind → Kind → Bool
same_kind a b = nat_eq (a.item).0 (b.item).0 && same_truth a.in_area b.in_area

abbrev pub has : List Kind → Kind → Bool
has kinds k = list_any (λ j. same_kind j k) kinds

-- the frame is of one of these kinds
abbrev pub is_of : List Kind → Frame → Bool
is_of kinds f = has kinds (kind_of f)

-- so is each frame
abbrev pub have_kinds : List Kind → List Frame → Bool
have_kinds kinds frames = list_all (is_of kinds) frames
