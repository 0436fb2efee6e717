-- What starts, as the rules see it.
use Rattle.std.specs.Prelude.{ℕ, Bool, true, false, not, ◌&&◌, List, [], get_or, Option, None}
use Rattle.std.specs.Option.{option_map, IfSome}
use Rattle.std.specs.List.{list_any}
use Rattle.syn_base.specs.declared.places.Place.{Place}
use Rattle.syn_base.specs.declared.places.ItemId.{ItemId}
use Rattle.vim_pattern.specs.Shape.{empty}
use Rattle.match_rules.specs.Ways.{Text}
use Rattle.syntax_set.specs.declared.added_item.AddedItem.{AddedItem}
use Rattle.syntax_set.specs.declared.item.ItemKind.{ItemKind}
use Rattle.syntax_set.specs.declared.item.ItemKind.TheVariants as kind
use Rattle.syntax_set.specs.declared.item.Pattern.{Pattern}
use Rattle.paint_rules.specs.Frames.{Frame}
use Rattle.paint_rules.specs.declared.Waiting.{Waiting}
use Rattle.paint_rules.specs.Painted.{Painted, done, ◌>>=◌}
use Rattle.paint_rules.specs.ItemMatch.{item_match}
use Rattle.paint_rules.specs.Rules.{Rules, Here, Cause, item_of, same_item}
use Rattle.paint_rules.specs.Lists.{is_allowed_in, is_next}
use Rattle.paint_rules.specs.States.{Standing}
use Rattle.paint_rules.specs.Pick as rule
use Rattle.paint_rules.specs.Pick.{region_start, start_by}
use Rattle.item_pick.specs.declared.starting.Outcome.{Outcome}
use Rattle.item_pick.specs.declared.starting.Outcome.TheVariants as outcome
use Rattle.item_pick.specs.declared.choice.Choice.{Choice}
use Rattle.item_pick.specs.declared.choice.Choice.TheVariants.{ListOf, Within, NoItem}
use Rattle.item_pick.specs.declared.starting.Starting.{Starting}
use Rattle.item_pick.specs.declared.starting.Starting.TheVariants.{Word, Matched, Empty, Region}
use Rattle.item_pick.specs.declared.picking.Picking.{Picking}
use Rattle.item_pick.specs.PartsSeen.{rules_by}
use Rattle.item_pick.specs.Starts.{IsStarting}

abbrev pub no_pattern : Pattern
no_pattern = record {
  id = record { 0 = 0 };
  tree = record { node = empty; case = None; groups = 0; externals = 0; moves_start = false; line_end = false };
  ms = None;
  me = None;
  hs = None;
  he = None;
  rs = None;
  re = None;
  lc = 0;
  matchgroup = None;
  excludenl = false;
}

abbrev pub pattern_of : ItemKind → Pattern
pattern_of (kind.Match pattern) = pattern
pattern_of _ = no_pattern

abbrev pub starts_of : ItemKind → List Pattern
starts_of (kind.Region starts skip ends) = starts
starts_of _ = []

abbrev pub match_pattern : List AddedItem → ItemId → Pattern
match_pattern items i = pattern_of (item_of items i).kind

abbrev pub start_pattern : List AddedItem → ItemId → ℕ → Pattern
start_pattern items i n = get_or (starts_of (item_of items i).kind) n no_pattern

-- the pattern stands in place of its number
abbrev pub starting_of : List AddedItem → Starting → rule.Starting
starting_of items (Word i end) = rule.AWord i end
starting_of items (Matched i m) = rule.AMatch i (match_pattern items i) m
starting_of items (Empty i) = rule.AnEmpty i
starting_of items (Region i n m end) = rule.ARegion i (start_pattern items i n) m end

abbrev pub seen_start : List AddedItem → Option Starting → Option rule.Starting
seen_start items o = option_map (starting_of items) o

abbrev pub seen_pick : List AddedItem → Outcome → rule.Picked
seen_pick items (outcome.Start starting) = rule.Start (starting_of items starting)
seen_pick items outcome.SkipOn = rule.SkipOn
seen_pick items outcome.Nothing = rule.Nothing

-- what starts names an item, and a pattern of it, that are there
abbrev pub IsThere : List AddedItem → Starting → Type 0
IsThere items starting = IsStarting items starting (starting_of items starting)

abbrev pub IsStartThere : List AddedItem → Option Starting → Type 0
IsStartThere items found = IfSome found (IsThere items)

abbrev pub IsOutcomeThere : List AddedItem → Outcome → Type 0
IsOutcomeThere items (outcome.Start starting) = IsThere items starting
IsOutcomeThere items _ = Unit {0}

abbrev pub here_at : Rules → Text → Place → Here
here_at r t p = record { rules = r; text = t; line = p.line }

-- and of a pick
abbrev pub here_of : {L : Type 0} → (L → Text) → Picking L → Here
here_of lines p = here_at (rules_by p.asked.now) (lines p.lines.now) p.at

-- the items that a choice has
abbrev pub admits : Rules → Choice → ItemId → Bool
admits r (ListOf w) i = is_next r w i
admits r (Within c) i = is_allowed_in r c i
admits r NoItem i = false

-- those of them that haven't started at this place
abbrev pub is_free : Rules → List ItemId → Choice → ItemId → Bool
is_free r tried choice i = not (list_any (same_item i) tried) && admits r choice i

abbrev pub standing_at : List Frame → Option Waiting → ℕ → List ItemId → Standing
standing_at stack waiting floor tried =
    record { stack = stack; waiting = waiting; floor = floor; tried = tried; is_over = false }

-- a region by one of its start patterns
abbrev pub start_at : Rules → Text → Place → ℕ → ItemId → Pattern → Painted Cause (Option rule.Starting)
start_at r t p floor i pattern = do
  m ← item_match r t i pattern p floor
  region_start (here_at r t p) i pattern m

-- an item, if a choice has it
abbrev pub start_if_free : Rules → Text → Place → ℕ → List ItemId → Choice → ItemId → Painted Cause (Option rule.Starting)
start_if_free r t p floor tried choice i = elim (is_free r tried choice i) [
  | true ↦ start_by (here_at r t p) p.col floor i (item_of r.items i).kind
  | false ↦ done None
]
