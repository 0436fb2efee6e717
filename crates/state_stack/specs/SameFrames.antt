-- What is compared of two frames besides their externals.
use Rattle.std.specs.Prelude.{◌≡◌}
use Rattle.paint_rules.specs.Frames.{Frame}

-- their item, their part of it, what they show, and where their highlight and their search begin
abbrev pub SameHead : Frame → Frame → Type 0
SameHead f g =
    (f.item ≡ g.item) × (f.part ≡ g.part) × (f.shows ≡ g.shows) × (f.high_from ≡ g.high_from) × (f.search ≡ g.search)

-- where they and their end areas end, and what these areas show
abbrev pub SameEnds : Frame → Frame → Type 0
SameEnds f g =
    (f.known_end ≡ g.known_end) × (f.high_to ≡ g.high_to) × (f.area_end ≡ g.area_end) × (f.area_high ≡ g.area_high)
    × (f.area_shows ≡ g.area_shows)
