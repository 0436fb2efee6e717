-- Closing at a place comes to its end.
use Rattle.std.specs.Prelude.{◌≡◌, ℕ, None}
use Rattle.paint_rules.specs.Painted.{done}
use Rattle.paint_rules.specs.Rules.{Here}
use Rattle.paint_rules.specs.States.{Standing}
use Rattle.paint_rules.specs.Close.{close_once, closed}
use Rattle.paint_laws.specs.Outcomes.{Gives}

-- the law: where closing has come to its end, nothing closes at this place any more
abbrev pub ClosingEnds : Type 0
ClosingEnds =
    (h : Here) (c : ℕ) (before after : Standing) → Gives (closed h c before) after →
    close_once h c after after.stack ≡ done None
