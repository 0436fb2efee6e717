-- What starts at a place (Vim's help, :syn-priority, :syn-nextgroup, :syn-oneline).
use Rattle.std.specs.Prelude.{ℕ, zero, suc, ◌-◌, Bool, true, false, nat_lt, nat_eq, ◌&&◌, ◌||◌, not, List, [], ◌∷◌, Option, Some, None, is_some, is_none, length, take, drop, reverse, slice_get}
use Rattle.std.specs.Option.{option_map}
use Rattle.std.specs.List.{list_any, find, filter}
use Rattle.syn_base.specs.declared.places.Place.{Place}
use Rattle.match_rules.specs.Ways.{is_after}
use Rattle.syn_base.specs.declared.places.GroupId.{GroupId}
use Rattle.syn_base.specs.declared.places.ItemId.{ItemId}
use Rattle.syntax_set.specs.declared.item.ItemKind.{ItemKind}
use Rattle.syntax_set.specs.declared.item.ItemKind.TheVariants.{Keyword, Match, Region}
use Rattle.syntax_set.specs.declared.item.Pattern.{Pattern}
use Rattle.paint_rules.specs.declared.Which.TheVariants.{Me, Hs, He, Rs}
use Rattle.paint_rules.specs.Frames.{Frame}
use Rattle.paint_rules.specs.declared.Part.TheVariants.{Body, StartArea, Keyword as Word}
use Rattle.paint_rules.specs.declared.Spot.TheVariants.{At}
use Rattle.paint_rules.specs.declared.Waiting.{Waiting}
use Rattle.keyword_table.specs.Candidates.{candidates}
use Rattle.keyword_table.specs.Words.{word_end}
use Rattle.paint_rules.specs.Painted.{Painted, Refused, done, ◌>>=◌, first_found}
use Rattle.paint_rules.specs.Rules.{Rules, Matched, Here, this_line, item_of, same_item, no_externals, Cause, TooDeep, place_at}
use Rattle.paint_rules.specs.Offsets.{offset_place, later_place, earlier_place}
use Rattle.paint_rules.specs.Lists.{is_allowed_in, is_next}
use Rattle.paint_rules.specs.ItemMatch.{item_match}
use Rattle.paint_rules.specs.declared.RegionEnd.{RegionEnd}
use Rattle.paint_rules.specs.EndInLine.{search_from, end_in_line}
use Rattle.paint_rules.specs.States.{spot_of, Standing}
use Rattle.paint_rules.specs.Close.{is_body, with_end, waiting_after}

-- Which items are allowed

-- a transparent item without `contains` is passed over, for what lies below it
abbrev pub container_of : Rules → List Frame → Option ItemId
container_of r [] = None
container_of r (f ∷ below) =
    elim (is_body f.part && (item_of r.items f.item).transparent && is_none (item_of r.items f.item).contains) [
      | true ↦ container_of r below
      | false ↦ Some f.item
    ]

-- nothing is allowed in a keyword or in an area
abbrev pub is_allowed : Rules → List Frame → ItemId → Bool
is_allowed r [] i = is_allowed_in r None i
is_allowed r (top ∷ below) i = is_body top.part && is_allowed_in r (container_of r (top ∷ below)) i

-- What starts

pub data Starting : Type 0 where
  AWord : (item : ItemId) (end : ℕ) → Starting
  AMatch : (item : ItemId) (pattern : Pattern) (m : Matched) → Starting
  AnEmpty : (item : ItemId) → Starting
  ARegion : (item : ItemId) (pattern : Pattern) (m : Matched) (end : Option RegionEnd) → Starting

-- a keyword and the end of its word
pub record WordFound : Type 0 where
  pub item : ItemId
  pub end : ℕ

abbrev pub keyword_to : Rules → (ItemId → Bool) → List ℕ → ℕ → Option ℕ → Option WordFound
keyword_to r admits line c None = None
keyword_to r admits line c (Some end) =
    option_map (λ i. record { item = i; end = end }) (find admits (candidates r.keywords (take (end - c) (drop c line))))

-- the keyword whose word begins at a column of a line
abbrev pub keyword_at : Rules → (ItemId → Bool) → List ℕ → ℕ → Option WordFound
keyword_at r admits line c = keyword_to r admits line c (word_end line c r.sets.keyword)

-- a match that takes nothing is none without a nextgroup
abbrev pub match_start : Here → ℕ → ItemId → Pattern → Option Matched → Option Starting
match_start h c i pattern None = None
match_start h c i pattern (Some m) =
    elim (is_after (offset_place h.text m pattern Me) (place_at h.line c)) [
      | true ↦ Some (AMatch i pattern m)
      | false ↦ elim (is_some (item_of h.rules.items i).nextgroup) [ true ↦ Some (AnEmpty i) | false ↦ None ]
    ]

-- a region that searches its end at once; a oneline one doesn't start in vain
abbrev pub region_with_end : Here → ItemId → Pattern → Matched → Painted Cause (Option Starting)
region_with_end h i pattern m = do
  end ← end_in_line (search_from h i m.externals m.to)
  elim ((item_of h.rules.items i).oneline && is_none end) [ true ↦ done None | false ↦ done (Some (ARegion i pattern m end)) ]

-- a region searches its end at once if that is in this line; a oneline one always
abbrev pub region_start : Here → ItemId → Pattern → Option Matched → Painted Cause (Option Starting)
region_start h i pattern None = done None
region_start h i pattern (Some m) =
    elim ((item_of h.rules.items i).oneline || nat_eq m.to.line h.line) [
      | true ↦ region_with_end h i pattern m
      | false ↦ done (Some (ARegion i pattern m None))
    ]

abbrev pub start_by : Here → ℕ → ℕ → ItemId → ItemKind → Painted Cause (Option Starting)
start_by h c floor i Keyword = done None
start_by h c floor i (Match pattern) = do
  m ← item_match h.rules h.text i pattern (place_at h.line c) floor
  done (match_start h c i pattern m)
start_by h c floor i (Region starts skip ends) =
    first_found (λ pattern. do
      m ← item_match h.rules h.text i pattern (place_at h.line c) floor
      region_start h i pattern m)
    (reverse starts)

-- the last item first
abbrev pub items_below : ℕ → List ItemId
items_below zero = []
items_below (suc n) = record { 0 = n } ∷ items_below n

abbrev pub is_tried : Standing → ItemId → Bool
is_tried s i = list_any (same_item i) s.tried

-- a keyword whose word begins here, or else the first match or region
abbrev pub start_among : Here → ℕ → Standing → (ItemId → Bool) → Painted Cause (Option Starting)
start_among h c s admits =
    let free = λ (i : ItemId). not (is_tried s i) && admits i in
    elim (keyword_at h.rules free (this_line h) c) [
      | Some word ↦ done (Some (AWord word.item word.end))
      | None ↦ first_found (λ i. start_by h c s.floor i (item_of h.rules.items i).kind)
          (filter free (items_below (length h.rules.items)))
    ]

pub data Picked : Type 0 where
  Start : (starting : Starting) → Picked
  SkipOn : Picked
  Nothing : Picked

abbrev pub is_blank : ℕ → Bool
is_blank x = nat_eq x 32 || nat_eq x 9

-- a wait in vain goes on over a blank, or over the line's end
abbrev pub waits_over : Rules → List ℕ → Waiting → Option ℕ → Bool
waits_over r line w (Some x) = is_blank x && (item_of r.items w.item).skipwhite
waits_over r line w None =
    let item = item_of r.items w.item in
    item.skipempty || (item.skipnl && (nat_lt 0 (length line) || w.fresh))

abbrev pub waits_on : Rules → List ℕ → ℕ → Waiting → Bool
waits_on r line c w = waits_over r line w (slice_get line c)

abbrev pub or_nothing : Option Starting → Picked
or_nothing None = Nothing
or_nothing (Some starting) = Start starting

abbrev pub picked_allowed : Here → ℕ → Standing → Painted Cause Picked
picked_allowed h c s = do
  found ← start_among h c s (is_allowed h.rules s.stack)
  done (or_nothing found)

abbrev pub picked_waiting : Here → ℕ → Standing → Option Waiting → Painted Cause Picked
picked_waiting h c s None = picked_allowed h c s
picked_waiting h c s (Some w) = do
  found ← start_among h c s (is_next h.rules w.item)
  elim found [
    | Some starting ↦ done (Start starting)
    | None ↦ elim (waits_on h.rules (this_line h) c w) [ true ↦ done SkipOn | false ↦ picked_allowed h c s ]
  ]

abbrev pub picked : Here → ℕ → Standing → Painted Cause Picked
picked h c s = picked_waiting h c s s.waiting

-- What a start pushes

abbrev pub most_frames : ℕ
most_frames = 1000

abbrev pub pushed : Frame → List Frame → Painted Cause (List Frame)
pushed f stack = elim (nat_lt (length stack) most_frames) [ true ↦ done (f ∷ stack) | false ↦ Refused TooDeep None ]

abbrev pub started_at : ℕ → ItemId → Standing → List Frame → Option Waiting → Standing
started_at c i s stack waiting = record s { stack = stack; waiting = waiting; floor = c; tried = i ∷ s.tried }

-- a keyword, up to the end of its word
abbrev pub word_frame : Here → ℕ → ItemId → ℕ → Frame
word_frame h c i end = record {
  item = i;
  part = Word;
  shows = (item_of h.rules.items i).group;
  known_end = Some (At 0 end);
  high_from = At 0 c;
  high_to = Some (At 0 end);
  area_end = None;
  area_high = None;
  area_shows = None;
  search = At 0 c;
  externals = no_externals;
}

-- a place kept within the body
abbrev pub between : Place → Place → Place → Place
between from to p = earlier_place (later_place p from) to

abbrev pub match_frame : Here → ℕ → ItemId → Pattern → Matched → Frame
match_frame h c i pattern m =
    let start = place_at h.line c in
    let me = offset_place h.text m pattern Me in
    record {
      item = i;
      part = Body;
      shows = (item_of h.rules.items i).group;
      known_end = Some (spot_of h me);
      high_from = spot_of h (between start me (offset_place h.text m pattern Hs));
      high_to = Some (spot_of h (between start me (offset_place h.text m pattern He)));
      area_end = None;
      area_high = None;
      area_shows = None;
      search = At 0 c;
      externals = no_externals;
    }

-- where a region's body begins
abbrev pub body_from : Here → ℕ → Pattern → Matched → Place
body_from h c pattern m = later_place (offset_place h.text m pattern Rs) (place_at h.line c)

-- where its highlight begins: behind the start area, if it has one
abbrev pub body_high : Here → ℕ → Pattern → Matched → Place
body_high h c pattern m = elim pattern.matchgroup [
  | Some g ↦ body_from h c pattern m
  | None ↦ later_place (offset_place h.text m pattern Hs) (place_at h.line c)
]

-- a region's body, of which no end is known yet
abbrev pub body_frame : Here → ℕ → ItemId → Pattern → Matched → Frame
body_frame h c i pattern m = record {
  item = i;
  part = Body;
  shows = (item_of h.rules.items i).group;
  known_end = None;
  high_from = spot_of h (body_high h c pattern m);
  high_to = None;
  area_end = None;
  area_high = None;
  area_shows = None;
  search = spot_of h m.to;
  externals = m.externals;
}

abbrev pub body_with_end : Here → Frame → Option RegionEnd → Frame
body_with_end h f None = f
body_with_end h f (Some e) = with_end h f (Some e)

-- a region's start area, which ends where the body begins
abbrev pub area_frame : Here → ℕ → ItemId → Pattern → Matched → GroupId → Frame
area_frame h c i pattern m g = record {
  item = i;
  part = StartArea;
  shows = g;
  known_end = Some (spot_of h (body_from h c pattern m));
  high_from = spot_of h (offset_place h.text m pattern Hs);
  high_to = None;
  area_end = None;
  area_high = None;
  area_shows = None;
  search = spot_of h m.to;
  externals = m.externals;
}

abbrev pub area_pushed : Here → ℕ → ItemId → Pattern → Matched → List Frame → Painted Cause (List Frame)
area_pushed h c i pattern m stack = elim pattern.matchgroup [
  | None ↦ done stack
  | Some g ↦ pushed (area_frame h c i pattern m g) stack
]

abbrev pub started : Here → ℕ → Standing → Starting → Painted Cause Standing
started h c s (AWord i end) = do
  stack ← pushed (word_frame h c i end) s.stack
  done (started_at c i s stack None)
started h c s (AMatch i pattern m) = do
  stack ← pushed (match_frame h c i pattern m) s.stack
  done (started_at c i s stack None)
started h c s (AnEmpty i) = done (started_at c i s s.stack (waiting_after h.rules (this_line h) c i))
started h c s (ARegion i pattern m end) = do
  body ← pushed (body_with_end h (body_frame h c i pattern m) end) s.stack
  stack ← area_pushed h c i pattern m body
  done (started_at c i s stack None)
