-- Starts, as the code speaks of them.
use Rattle.std.specs.Prelude.{ℕ, None}
use Rattle.paint_rules.specs.Frames.{Frame}
use Rattle.syn_base.specs.declared.places.ItemId.{ItemId}
use Rattle.paint_rules.specs.Painted.{Painted, done, ◌>>=◌}
use Rattle.paint_rules.specs.Rules.{Cause}
use Rattle.paint_rules.specs.States.{Standing}
use Rattle.paint_rules.specs.Pick.{pushed, started_at}

-- an item starts with one frame
abbrev pub start_one : ℕ → ItemId → Standing → Frame → Painted Cause Standing
start_one c i s f = do
  stack ← pushed f s.stack
  done (started_at c i s stack None)

-- and with two
abbrev pub start_two : ℕ → ItemId → Standing → Frame → Frame → Painted Cause Standing
start_two c i s f g = do
  below ← pushed f s.stack
  stack ← pushed g below
  done (started_at c i s stack None)
