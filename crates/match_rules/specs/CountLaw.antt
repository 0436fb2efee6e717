-- A count is its own next turn and the rest: the rule of the turns, read from their definition by
-- recursion on how many can be left.
use Rattle.std.specs.Prelude.{◌≡◌, ℕ, Bool, Option}
use Rattle.vim_pattern.specs.Shape.{Shape, repeat}
use Rattle.match_rules.specs.Ways.{Context, Way, IsPlaceOf}
use Rattle.match_rules.specs.Counts.{next_turn}
use Rattle.match_rules.specs.Visits.{visits}

abbrev pub CountsByTurns : Context → Type 0
CountsByTurns x =
    (part : Shape) (least : ℕ) (most : Option ℕ) (lazy : Bool) (w : Way) → IsPlaceOf x.text w.at →
    visits x (repeat part least most lazy) w ≡ next_turn x.text (visits x part) lazy least most w
