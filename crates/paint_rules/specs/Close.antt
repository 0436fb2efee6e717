-- Closing at a place, and the start of a line (Vim's help, :syn-matchgroup, :syn-nextgroup, :syn-excludenl).
use Rattle.std.specs.Prelude.{ℕ, zero, suc, ◌+◌, Bool, true, false, nat_eq, ◌&&◌, ◌||◌, not, List, [], ◌∷◌, Option, Some, None, is_some, is_none, unwrap_or, length, max}
use Rattle.std.specs.Option.{option_map}
use Rattle.std.specs.List.{list_any}
use Rattle.syn_base.specs.declared.places.ItemId.{ItemId}
use Rattle.syntax_set.specs.declared.item.ItemKind.{ItemKind}
use Rattle.syntax_set.specs.declared.item.ItemKind.TheVariants.{Keyword, Match, Region}
use Rattle.syntax_set.specs.declared.item.Pattern.{Pattern}
use Rattle.paint_rules.specs.Frames.{Frame}
use Rattle.paint_rules.specs.declared.Part.{Part}
use Rattle.paint_rules.specs.declared.Part.TheVariants.{Body, EndArea}
use Rattle.paint_rules.specs.declared.Spot.{Spot}
use Rattle.paint_rules.specs.declared.Spot.TheVariants.{Past, At}
use Rattle.paint_rules.specs.declared.Waiting.{Waiting}
use Rattle.paint_rules.specs.Painted.{Painted, done, ◌>>=◌}
use Rattle.paint_rules.specs.Rules.{Rules, Here, this_line, item_of, Cause, place_at}
use Rattle.paint_rules.specs.declared.RegionEnd.{RegionEnd}
use Rattle.paint_rules.specs.EndInLine.{search_from, end_in_line}
use Rattle.paint_rules.specs.KeptEnd.{is_before, earlier_end, has_extend, has_keepend, is_start_area, kept_end_over}
use Rattle.paint_rules.specs.States.{spot_of, Standing}

abbrev pub is_body : Part → Bool
is_body Body = true
is_body _ = false

abbrev pub is_region : ItemKind → Bool
is_region (Region starts skip ends) = true
is_region _ = false

abbrev pub is_region_body : Rules → Frame → Bool
is_region_body r f = is_body f.part && is_region (item_of r.items f.item).kind

-- a search that finds an end sets it; one in vain sets none, but a oneline region ends with the line
abbrev pub with_end : Here → Frame → Option RegionEnd → Frame
with_end h f (Some e) = record f {
  known_end = Some (spot_of h e.end);
  high_to = Some (spot_of h e.high_to);
  area_end = option_map (spot_of h) e.area_end;
  area_high = option_map (spot_of h) e.area_high;
  area_shows = e.area_shows;
}
with_end h f None = record f {
  known_end = elim (item_of h.rules.items f.item).oneline [ true ↦ Some (At 0 (length (this_line h))) | false ↦ None ];
  high_to = None;
  area_end = None;
  area_high = None;
  area_shows = None;
}

-- a frame that searched its end in this line, from a column
abbrev pub searched : Here → Frame → ℕ → Painted Cause Frame
searched h f c = do
  found ← end_in_line (search_from h f.item f.externals (place_at h.line c))
  done (with_end h f found)

-- the column where a search begins: the frame's search place or this column, whichever is later; none in a later line
abbrev pub search_col : ℕ → Spot → Option ℕ
search_col c Past = Some c
search_col c (At zero d) = Some (max c d)
search_col c (At (suc k) d) = None

abbrev pub searched_if : Here → Frame → Option ℕ → Painted Cause Frame
searched_if h f None = done f
searched_if h f (Some c) = searched h f c

-- a region body searches anew from a column
abbrev pub searched_anew : Here → ℕ → Frame → Painted Cause Frame
searched_anew h c f = elim (is_region_body h.rules f) [ true ↦ searched_if h f (search_col c f.search) | false ↦ done f ]

-- Start of a line

abbrev pub is_open : Option Spot → Bool
is_open None = true
is_open (Some Past) = true
is_open (Some (At k c)) = false

-- a frame searches if its end lies before this line or isn't known
abbrev pub at_line_start : Here → Frame → Painted Cause Frame
at_line_start h f = elim (is_open f.known_end) [ true ↦ searched_anew h 0 f | false ↦ done f ]

-- below the top those with `keepend` search, down to the first with `extend`; the bottom one first
abbrev pub below_at_line_start : Here → List Frame → Painted Cause (List Frame)
below_at_line_start h [] = done []
below_at_line_start h (f ∷ below) = do
  rest ← elim (has_extend h.rules.items f) [ true ↦ done below | false ↦ below_at_line_start h below ]
  g ← elim (has_keepend h.rules.items f) [ true ↦ at_line_start h f | false ↦ done f ]
  done (g ∷ rest)

abbrev pub line_start : Here → List Frame → Painted Cause (List Frame)
line_start h [] = done []
line_start h (top ∷ below) = do
  rest ← elim (has_extend h.rules.items top) [ true ↦ done below | false ↦ below_at_line_start h below ]
  f ← at_line_start h top
  done (f ∷ rest)

-- Closing

abbrev pub is_reached : Spot → Option Spot → Bool
is_reached place None = false
is_reached place (Some end) = not (is_before place end)

abbrev pub goes_beyond : Spot → Option Spot → Bool
goes_beyond place None = false
goes_beyond place (Some end) = is_before place end

-- what becomes of the top frame at a place
pub data Closing : Type 0 where
  Stays BecomesArea Leaves LeavesArea : Closing

-- a frame whose kept end is reached: a region's body with an end area there becomes that area, any other frame goes
abbrev pub ending : Rules → Spot → Frame → Closing
ending r place top =
    elim (is_region_body r top && is_reached place top.known_end && goes_beyond place top.area_end) [
      | true ↦ BecomesArea
      | false ↦ elim (is_start_area top.part) [ true ↦ LeavesArea | false ↦ Leaves ]
    ]

abbrev pub closing_of : Rules → Spot → Frame → List Frame → Closing
closing_of r place top below =
    elim (is_reached place (kept_end_over r.items top below)) [ true ↦ ending r place top | false ↦ Stays ]

-- the end area of a region body, from a place on
abbrev pub end_area_of : Spot → Frame → Frame
end_area_of place f = record f {
  part = EndArea;
  shows = unwrap_or f.area_shows f.shows;
  known_end = f.area_end;
  high_from = place;
  high_to = earlier_end f.area_high f.area_end;
}

abbrev pub is_line_end : List ℕ → ℕ → Bool
is_line_end line c = nat_eq c (length line)

-- an item's nextgroup waits, at the line's end only if it may go on
abbrev pub waiting_after : Rules → List ℕ → ℕ → ItemId → Option Waiting
waiting_after r line c i =
    let item = item_of r.items i in
    elim (is_some item.nextgroup && (not (is_line_end line c) || item.skipnl || item.skipempty)) [
      | true ↦ Some (record { item = i; fresh = true })
      | false ↦ None
    ]

-- under a start area that was popped: the body searches from its search place, if its end isn't known and it lies in this line
abbrev pub col_here : Spot → Option ℕ
col_here (At zero c) = Some c
col_here _ = None

abbrev pub body_after_area : Here → List Frame → Painted Cause (List Frame)
body_after_area h [] = done []
body_after_area h (body ∷ below) = do
  f ← elim (is_region_body h.rules body && is_none body.known_end) [
    | true ↦ searched_if h body (col_here body.search)
    | false ↦ done body
  ]
  done (f ∷ below)

-- the frames under one with `extend` that was popped: from the last one with `extend` on, those with `keepend` and those
-- above such a one search anew, the bottom one first; `over` says that the top is among them
pub record Anew : Type 0 where
  pub frames : List Frame
  pub over : Bool

abbrev pub untouched : List Frame → Anew
untouched frames = record { frames = frames; over = false }

abbrev pub anew_over_keepend : Here → ℕ → List Frame → Painted Cause Anew
anew_over_keepend h c [] = done (untouched [])
anew_over_keepend h c (f ∷ below) = do
  rest ← elim (has_extend h.rules.items f) [ true ↦ done (untouched below) | false ↦ anew_over_keepend h c below ]
  let over = rest.over || has_keepend h.rules.items f
  g ← elim over [ true ↦ searched_anew h c f | false ↦ done f ]
  done (record { frames = g ∷ rest.frames; over = over })

-- the exposed frame, unless it has searched already, searches anew where it has no `keepend`
abbrev pub exposed_anew : Here → ℕ → Bool → List Frame → Painted Cause (List Frame)
exposed_anew h c has_searched [] = done []
exposed_anew h c has_searched (f ∷ below) = do
  g ← elim (has_searched || has_keepend h.rules.items f) [ true ↦ done f | false ↦ searched_anew h c f ]
  done (g ∷ below)

abbrev pub frames_after : Here → ℕ → Frame → List Frame → Painted Cause (List Frame)
frames_after h c popped below = do
  anew ← elim (has_extend h.rules.items popped) [ true ↦ anew_over_keepend h c below | false ↦ done (untouched below) ]
  exposed_anew h c anew.over anew.frames

-- a line end in an item's pattern
abbrev pub line_end_counts : Pattern → Bool
line_end_counts p = p.tree.line_end && not p.excludenl

abbrev pub has_line_end : ItemKind → Bool
has_line_end Keyword = false
has_line_end (Match p) = line_end_counts p
has_line_end (Region starts skip ends) = list_any line_end_counts ends

abbrev pub is_region_body_on : Rules → List Frame → Bool
is_region_body_on r [] = false
is_region_body_on r (f ∷ below) = is_region_body r f

-- the container goes on past the line's end: closing is over for this line
abbrev pub container_goes_on : Rules → List ℕ → ℕ → Frame → List Frame → Bool
container_goes_on r line c popped below =
    has_line_end (item_of r.items popped.item).kind && not (list_any (has_keepend r.items) below)
    && is_region_body_on r below && is_line_end line c

-- the top frame becomes its end area, and no item waits any more
abbrev pub becomes_area : ℕ → Standing → Frame → List Frame → Standing
becomes_area c s top below = record s { stack = end_area_of (At 0 c) top ∷ below; waiting = None }

-- a start area is popped, which leaves these frames; no item waits any more
abbrev pub start_area_popped : ℕ → Standing → List Frame → Standing
start_area_popped c s frames = record s { stack = frames; waiting = None; floor = c }

-- any other frame is popped from those below it, which leaves these; its item's nextgroup waits
abbrev pub frame_popped : Here → ℕ → Standing → Frame → List Frame → List Frame → Standing
frame_popped h c s top below frames = record s {
  stack = frames;
  waiting = waiting_after h.rules (this_line h) c top.item;
  floor = c;
  is_over = container_goes_on h.rules (this_line h) c top below;
}

-- one step of closing; none is left where the top frame stays
abbrev pub close_top : Here → ℕ → Standing → Frame → List Frame → Closing → Painted Cause (Option Standing)
close_top h c s top below Stays = done None
close_top h c s top below BecomesArea = done (Some (becomes_area c s top below))
close_top h c s top below LeavesArea = do
  frames ← body_after_area h below
  done (Some (start_area_popped c s frames))
close_top h c s top below Leaves = do
  frames ← frames_after h c top below
  done (Some (frame_popped h c s top below frames))

abbrev pub close_once : Here → ℕ → Standing → List Frame → Painted Cause (Option Standing)
close_once h c s [] = done None
close_once h c s (top ∷ below) =
    close_top h c s top below (elim s.is_over [ true ↦ Stays | false ↦ closing_of h.rules (At 0 c) top below ])

abbrev pub closed_in : ℕ → Here → ℕ → Standing → Painted Cause Standing
closed_in zero h c s = done s
closed_in (suc steps) h c s = do
  next ← close_once h c s s.stack
  elim next [ None ↦ done s | Some more ↦ closed_in steps h c more ]

-- each frame becomes an end area at most once, and is popped at most once
abbrev pub closed : Here → ℕ → Standing → Painted Cause Standing
closed h c s = closed_in (length s.stack + length s.stack) h c s
