-- What a call on the standing leads to.
use Rattle.std.specs.Prelude.{◌≡◌, ◌≤◌, ℕ, Bool, true, false, length, reverse, Option, Some, None, Result, Ok, Err}
use Rattle.paint_rules.specs.Painted.{Painted, Done, looked_first}
use Rattle.paint_rules.specs.Rules.{Here, Cause, this_line}
use Rattle.paint_rules.specs.States as rule
use Rattle.paint_rules.specs.States.{Fits, WaitFits}
use Rattle.item_pick.specs.Screens.{HoldsLine}
use Rattle.line_paint.specs.declared.answers.Stop.{Stop}
use Rattle.line_paint.specs.declared.standing.Standing.{Standing}
use Rattle.line_paint.specs.Answers.{Comes, Stops}

-- what is carried along, as the rules see it
abbrev pub standing_of : Standing → rule.Standing
standing_of s = record {
  stack = reverse (s.state).stack;
  waiting = (s.state).waiting;
  floor = s.floor;
  tried = reverse s.tried;
  is_over = s.is_over;
}

-- each frame, and what waits, belongs to one of the items, and the last start or close isn't after
-- this column
abbrev pub Stands : Here → ℕ → Standing → Type 0
Stands h c s =
    Fits (length h.rules.items) (reverse (s.state).stack)
    × WaitFits (length h.rules.items) (s.state).waiting × (s.floor ≤ c)

-- so it stands at a column of the line, its end included, and the line was looked at
abbrev pub IsAt : Here → ℕ → Standing → Type 0
IsAt h c s = Stands h c s × (c ≤ length (this_line h)) × HoldsLine s.looked h.line

-- a call leads from one standing to another as a rule says
abbrev pub Leads : {A : Type 0} → Result A Stop → Standing → Standing →
    Painted Cause rule.Standing → Type 0
Leads r from to p = Comes (λ _. standing_of to) r from.looked to.looked p

-- the same, where the call says whether there is one to come
abbrev pub LeadsOn : Result Bool Stop → Standing → Standing → Painted Cause (Option rule.Standing) →
    Type 0
LeadsOn (Ok true) from to p =
    looked_first (Some from.looked) p ≡ Done (Some (standing_of to)) (Some to.looked)
LeadsOn (Ok false) from to p =
    (looked_first (Some from.looked) p ≡ Done None (Some to.looked))
    × (standing_of from ≡ standing_of to)
LeadsOn (Err e) from to p = Stops e p
