-- What an attempt at a column tells.
use Rattle.std.specs.Prelude.{◌≡◌, ◌<◌, ◌≤◌, ℕ, false, Option, Some, None, Result, Ok, Err}
use Rattle.syn_base.specs.declared.places.Place.{Place}
use Rattle.syn_base.specs.declared.places.ItemId.{ItemId}
use Rattle.match_rules.specs.Ways.{Text, is_same_place}
use Rattle.pattern_match.specs.declared.answer.Match.{Match}
use Rattle.syntax_set.specs.declared.item.Pattern.{Pattern}
use Rattle.paint_rules.specs.Painted.{Painted, Done}
use Rattle.paint_rules.specs.Rules.{Rules, Cause, place_at}
use Rattle.paint_rules.specs.ItemMatch.{starts_at}
use Rattle.item_pick.specs.declared.columns.Columns.{Columns}
use Rattle.item_pick.specs.declared.stop.Stop.{Stop}
use Rattle.item_pick.specs.declared.tries.Seen.{Seen}
use Rattle.item_pick.specs.declared.tries.Tried.{Tried}
use Rattle.item_pick.specs.declared.tries.Tried.TheVariants.{Here, Not}
use Rattle.item_pick.specs.Screens.{IsSettled}
use Rattle.item_pick.specs.Told.{IsStop}

abbrev pub IsSeen : Result Seen Stop → Painted Cause (Option Match) → Type 0
IsSeen (Ok seen) p = p ≡ Done seen.found (Some seen.looked)
IsSeen (Err stop) p = IsStop stop p

-- the columns of a line beside a place
abbrev pub IsBeside : ℕ → Place → Columns → Type 0
IsBeside l start columns =
    (at : ℕ) → columns.first ≤ at → at < columns.end → is_same_place start (place_at l at) ≡ false

-- what was found has its item start at none of these columns
abbrev pub HasNoStart : Text → ℕ → Pattern → Option Match → Columns → Type 0
HasNoStart t l pattern found columns =
    (at : ℕ) → columns.first ≤ at → at < columns.end →
    starts_at t pattern (place_at l at) found ≡ false

abbrev pub match_in : Tried → Option Match
match_in (Here m) = Some m
match_in (Not columns looked) = None

abbrev pub IsNotFrom : Rules → Text → ℕ → ItemId → Pattern → ℕ → Tried → Type 0
IsNotFrom r t l i pattern c (Here m) = Unit {0}
IsNotFrom r t l i pattern c (Not columns looked) =
    IsSettled r t l i pattern columns.first columns.end looked c
