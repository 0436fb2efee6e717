use Rattle.std.proofs.Common.{◌≡◌, ◌≤◌, ◌+◌, ◌*◌, ℕ, true}
use Rattle.vim_pattern.specs.Shape.{bare}
use Rattle.vim_pattern.specs.Parted.{node_count}
use Rattle.pattern_needs.specs.Growths.{total}
use Rattle.pattern_needs.specs.LineCosts.{Cost, cost_of, stays}
use Rattle.pattern_needs.proofs.rooms.+rooms.Given as goal

abbrev pub decreases-room_of : goal.decreases-room_of
decreases-room_of l = 2 * node_count (bare l.node.now)

abbrev pub decreases-room_behind : goal.decreases-room_behind
decreases-room_behind l = 2 * node_count (bare l.node.now) + 1

abbrev pub decreases-room_either : goal.decreases-room_either
decreases-room_either l = 2 * node_count (bare l.node.now) + 1

abbrev pub decreases-room_behind-loop-rest : goal.decreases-room_behind-loop-rest
decreases-room_behind-loop-rest l = node_count (bare l.rest)

-- the room that is known, with the rest behind it, is that of the whole
abbrev pub invariant-room_behind-loop-rest : goal.invariant-room_behind-loop-rest
invariant-room_behind-loop-rest l = record {
  same : (f : Cost) → total l.known (cost_of (bare l.rest) f) ≡ total l.fn.first (cost_of (bare l.fn.node) f);
  stay : stays (bare l.rest) ≡ true → stays (bare l.fn.node) ≡ true;
  within : node_count (bare l.rest) ≤ node_count (bare l.fn.node);
}

abbrev pub decreases-room_either-loop-rest : goal.decreases-room_either-loop-rest
decreases-room_either-loop-rest l = node_count (bare l.rest)

abbrev pub invariant-room_either-loop-rest : goal.invariant-room_either-loop-rest
invariant-room_either-loop-rest l = record {
  same : (f : Cost) (left : ℕ) → total l.known f left + cost_of (bare l.rest) f left ≡ total l.fn.one f left + cost_of (bare l.fn.node) f left;
  stay : stays (bare l.rest) ≡ true → stays (bare l.fn.node) ≡ true;
  within : node_count (bare l.rest) ≤ node_count (bare l.fn.node);
}
