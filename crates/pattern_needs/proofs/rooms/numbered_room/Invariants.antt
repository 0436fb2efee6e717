use Rattle.std.proofs.Common.{◌≡◌, true}
use Rattle.vim_pattern.specs.Shape.{bare}
use Rattle.vim_pattern.specs.Parted.{node_count}
use Rattle.pattern_needs.specs.Fronts.{front}
use Rattle.pattern_needs.specs.Growths.{total}
use Rattle.pattern_needs.specs.LineCosts.{Cost, cost_of, stays}
use Rattle.pattern_needs.proofs.rooms.numbered_room.Given as goal

abbrev pub decreases-loop-rest : goal.decreases-loop-rest
decreases-loop-rest l = node_count (bare l.rest)

-- the room that is known, with what is left of the front behind it, is that of the whole front
abbrev pub invariant-loop-rest : goal.invariant-loop-rest
invariant-loop-rest l = record {
  same : (f : Cost) → total l.known (cost_of (front (bare l.rest) l.left) f) ≡ cost_of (front (bare l.node) l.number) f;
  stay : stays (front (bare l.rest) l.left) ≡ true → stays (front (bare l.node) l.number) ≡ true;
}
