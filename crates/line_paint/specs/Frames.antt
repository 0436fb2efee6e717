-- Parts of the rules that have no name there.
use Rattle.std.specs.Prelude.{ℕ, List, ◌∷◌, Bool, true, false, ◌&&◌, ◌||◌, not, [], Option, Some, None, is_none, length, if◌then◌else◌}
use Rattle.paint_rules.specs.declared.Spot.{Spot}
use Rattle.paint_rules.specs.declared.Spot.TheVariants.{Past, At}
use Rattle.paint_rules.specs.Frames.{Frame}
use Rattle.paint_rules.specs.Painted.{Painted, done, ◌>>=◌}
use Rattle.paint_rules.specs.Rules.{Here, this_line, item_of, no_externals, Cause}
use Rattle.paint_rules.specs.Close.{Anew, anew_over_keepend, at_line_start, below_at_line_start, col_here, is_open, is_region_body, line_start, search_col, searched, searched_anew, searched_if, untouched}
use Rattle.paint_rules.specs.KeptEnd.{has_keepend}
use Rattle.syn_base.specs.declared.places.ItemId.{ItemId}
use Rattle.paint_rules.specs.declared.Part.TheVariants.{Body}
use Rattle.line_paint.specs.declared.ends.Occasion.{Occasion}
use Rattle.line_paint.specs.declared.ends.Occasion.TheVariants.{LineStart, UnderArea, OverKeepend, Exposed}
use Rattle.line_paint.specs.Standing.{frames_or}

abbrev pub line_end_if : Here → Bool → Option Spot
line_end_if h wanted = if wanted then Some (At 0 (length (this_line h))) else None

-- the column where a search is to begin, if there is to be one
abbrev pub from_if : Bool → Option ℕ → Option ℕ
from_if wanted from = if wanted then from else None

-- that of a frame on an occasion
abbrev pub search_column : Here → Occasion → Frame → Option ℕ
search_column h (LineStart is_top) f =
    from_if ((is_top || has_keepend h.rules.items f) && is_open f.known_end) (search_col 0 f.search)
search_column h UnderArea f = from_if (is_none f.known_end) (col_here f.search)
search_column h (OverKeepend c) f = search_col c f.search
search_column h (Exposed c) f =
    from_if (not (has_keepend h.rules.items f)) (search_col c f.search)

-- a frame that searches from a column, if there is one and it is the body of a region
abbrev pub searched_from : Here → Frame → Option ℕ → Painted Cause Frame
searched_from h f None = done f
searched_from h f (Some c) =
    elim (is_region_body h.rules f) [ true ↦ searched h f c | false ↦ done f ]

-- what a frame becomes on an occasion, in the words of the rules
abbrev pub searched_on : Here → Occasion → Frame → Painted Cause Frame
searched_on h (LineStart is_top) f =
    elim (is_top || has_keepend h.rules.items f) [ true ↦ at_line_start h f | false ↦ done f ]
searched_on h UnderArea f =
    elim (is_region_body h.rules f && is_none f.known_end) [
      | true ↦ searched_if h f (col_here f.search)
      | false ↦ done f
    ]
searched_on h (OverKeepend c) f = searched_anew h c f
searched_on h (Exposed c) f =
    elim (has_keepend h.rules.items f) [ true ↦ done f | false ↦ searched_anew h c f ]

-- the frames below the top, which were made anew, or those that stay
abbrev pub rest_or : List Frame → Option (List Frame) → List Frame
rest_or [] rest = []
rest_or (f ∷ below) rest = frames_or below rest

-- what a stack becomes of which the top searches, over what those below it have become
abbrev pub top_searched : Here → Occasion → List Frame → Option (List Frame) →
    Painted Cause (List Frame)
top_searched h on [] rest = done []
top_searched h on (f ∷ below) rest = do
  g ← searched_on h on f
  done (g ∷ frames_or below rest)

-- what frames become at the start of a line, with the top of the stack or below it
abbrev pub line_start_of : Here → Bool → List Frame → Painted Cause (List Frame)
line_start_of h true fs = line_start h fs
line_start_of h false fs = below_at_line_start h fs

-- what frames become at the start of a line or after a pop, where they are to search
abbrev pub below_if : Here → Bool → List Frame → Painted Cause (List Frame)
below_if h wanted fs = elim wanted [ true ↦ below_at_line_start h fs | false ↦ done fs ]

abbrev pub anew_if : Here → ℕ → Bool → List Frame → Painted Cause Anew
anew_if h c wanted fs = elim wanted [ true ↦ anew_over_keepend h c fs | false ↦ done (untouched fs) ]

-- a frame of an item of which nothing is known
abbrev pub plain_frame : Here → ItemId → Frame
plain_frame h i = record {
  item = i;
  part = Body;
  shows = (item_of h.rules.items i).group;
  known_end = None;
  high_from = Past;
  high_to = None;
  area_end = None;
  area_high = None;
  area_shows = None;
  search = Past;
  externals = no_externals;
}
