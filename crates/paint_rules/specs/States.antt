-- States: frames whose places are counted from the painted line. In these rules a stack stands with its top first.
use Rattle.std.specs.Prelude.{ℕ, zero, suc, ◌-◌, ◌<◌, Bool, true, false, nat_lt, List, [], ◌∷◌, map, Option, Some, None}
use Rattle.std.specs.Option.{option_map}
use Rattle.syn_base.specs.declared.places.Place.{Place}
use Rattle.syn_base.specs.declared.places.ItemId.{ItemId}
use Rattle.paint_rules.specs.Frames.{Frame}
use Rattle.paint_rules.specs.declared.Spot.{Spot}
use Rattle.paint_rules.specs.declared.Spot.TheVariants.{Past, At}
use Rattle.paint_rules.specs.declared.Waiting.{Waiting}
use Rattle.paint_rules.specs.Rules.{Here}

pub record State : Type 0 where
  pub stack : List Frame
  pub waiting : Option Waiting

-- each frame belongs to one of so many items
abbrev pub Fits : ℕ → List Frame → Type 0
Fits n [] = Unit {0}
Fits n (f ∷ frames) = ((f.item).0 < n) × Fits n frames

abbrev pub WaitFits : ℕ → Option Waiting → Type 0
WaitFits n None = Unit {0}
WaitFits n (Some w) = (w.item).0 < n

-- the frames and the waiting item belong to so many items
pub record StateFits (n : ℕ) (s : State) : Type 0 where
  pub frames : Fits n s.stack
  pub waits : WaitFits n s.waiting

abbrev pub empty_state : State
empty_state = record { stack = []; waiting = None }

-- a place of the text, counted from the painted line
abbrev pub spot_of : Here → Place → Spot
spot_of h p = elim (nat_lt p.line h.line) [ true ↦ Past | false ↦ At (p.line - h.line) p.col ]

-- the same place, counted from the line that follows
abbrev pub nearer : Spot → Spot
nearer Past = Past
nearer (At zero c) = Past
nearer (At (suc k) c) = At k c

abbrev pub nearer_frame : Frame → Frame
nearer_frame f = record f {
  known_end = option_map nearer f.known_end;
  high_from = nearer f.high_from;
  high_to = option_map nearer f.high_to;
  area_end = option_map nearer f.area_end;
  area_high = option_map nearer f.area_high;
  search = nearer f.search;
}

abbrev pub stale : Waiting → Waiting
stale w = record w { fresh = false }

-- the state before the next line
abbrev pub next_line : State → State
next_line s = record { stack = map nearer_frame s.stack; waiting = option_map stale s.waiting }

-- what painting a line keeps as it goes: besides the state, the column of the last start or close in the line, the items
-- that have started at this place, and whether closing is over for this line
pub record Standing : Type 0 where
  pub stack : List Frame
  pub waiting : Option Waiting
  pub floor : ℕ
  pub tried : List ItemId
  pub is_over : Bool
