-- Turns at a column: close, and then start what a pick finds.
use Rattle.std.specs.Prelude.{ℕ, Bool, true, false, None, Result}
use Rattle.paint_rules.specs.Painted.{Painted, done, ◌>>=◌}
use Rattle.paint_rules.specs.Rules.{Here, Cause}
use Rattle.paint_rules.specs.States as rule
use Rattle.paint_rules.specs.Close.{closed}
use Rattle.paint_rules.specs.Pick.{Picked, Start, SkipOn, Nothing, picked, started}
use Rattle.line_paint.specs.declared.answers.Stop.{Stop}
use Rattle.line_paint.specs.declared.standing.Standing.{Standing}
use Rattle.line_paint.specs.Answers.{Comes}
use Rattle.line_paint.specs.Leads.{standing_of}

-- after a turn there is another one, or it was the last
pub data Next : Type 0 where
  More : (s : rule.Standing) → Next
  Last : (s : rule.Standing) → Next

abbrev pub after_pick : Here → ℕ → rule.Standing → Picked → Painted Cause Next
after_pick h c s (Start starting) = do
  s ← started h c s starting
  done (More s)
after_pick h c s SkipOn = done (Last s)
after_pick h c s Nothing = done (Last (record s { waiting = None }))

abbrev pub next_start : Here → ℕ → rule.Standing → Painted Cause Next
next_start h c s = picked h c s >>= after_pick h c s

abbrev pub turn : Here → ℕ → rule.Standing → Painted Cause Next
turn h c s = closed h c s >>= next_start h c

abbrev pub next_of : rule.Standing → Bool → Next
next_of s true = More s
next_of s false = Last s

-- a call leads from one standing to another, and says whether there is another turn
abbrev pub LeadsNext : Result Bool Stop → Standing → Standing → Painted Cause Next → Type 0
LeadsNext r from to p = Comes (next_of (standing_of to)) r from.looked to.looked p
