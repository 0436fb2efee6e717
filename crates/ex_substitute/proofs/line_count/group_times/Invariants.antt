use Rattle.std.proofs.Common.{◌≡◌, ◌≤◌, ◌+◌, drop}
use Rattle.ex_substitute.specs.LineCount.{group_times}
use Rattle.ex_substitute.proofs.line_count.group_times.Given as goal

-- those so far, with those from here on, are all
abbrev pub invariant-loop-piece : goal.invariant-loop-piece
invariant-loop-piece l = record {
  all : l.times + group_times l.number (drop l.piece-index l.string) ≡ group_times l.number l.string;
  few : l.times ≤ l.piece-index;
}
