-- Columns at which nothing starts.
use Rattle.std.specs.Prelude.{◌≡◌, ◌<◌, ◌≤◌, ℕ, Bool, List, [], length, Some, None}
use Rattle.syn_base.specs.declared.places.Place.{Place}
use Rattle.syn_base.specs.declared.looked.Looked.{Looked}
use Rattle.match_rules.specs.Ways.{Text, line_at}
use Rattle.paint_rules.specs.Frames.{Frame}
use Rattle.paint_rules.specs.Painted.{Done, looked_first}
use Rattle.paint_rules.specs.Pick.{Nothing, picked}
use Rattle.paint_rules.specs.Rules.{Rules}
use Rattle.item_pick.specs.Started.{here_at}

-- up to, and without, a column nothing starts on a stack, and no line is looked at that isn't among
-- those of `looked`: where nothing waits, nothing has started at the column before, and the last start
-- or close is at `floor`
pub record IsQuietUntil (r : Rules) (t : Text) (at : Place) (stack : List Frame) (floor : ℕ) (looked : Looked) (end : ℕ) : Type 0 where
  pub from : at.col ≤ end
  pub within : end ≤ length (line_at t at.line)
  pub quiet : (c : ℕ) → at.col ≤ c → c < end → (over : Bool) →
      looked_first (Some looked) (picked (here_at r t at) c (record {
        stack = stack;
        waiting = None;
        floor = floor;
        tried = [];
        is_over = over;
      })) ≡ Done Nothing (Some looked)
