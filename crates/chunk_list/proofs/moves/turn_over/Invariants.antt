use Rattle.std.proofs.Common.{◌≡◌, ◌≤◌, ◌+◌, ◌++◌, reverse, length, vec_capacity}
use Rattle.chunk_list.proofs.moves.turn_over.Given as goal

-- what was taken stands in the other one, last first
abbrev pub invariant-items : goal.invariant-items
invariant-items g l = record {
  all : l.initial.from.items ≡ l.from.items ++ reverse l.to.items;
  low : l.at ≤ length l.from.items;
  fits : length l.from.items + length l.to.items ≡ length l.initial.from.items;
  room_from : vec_capacity l.from ≡ vec_capacity l.initial.from;
  room_to : vec_capacity l.to ≡ vec_capacity l.initial.to;
}

abbrev pub decreases-items : goal.decreases-items
decreases-items g l = length l.from.items
