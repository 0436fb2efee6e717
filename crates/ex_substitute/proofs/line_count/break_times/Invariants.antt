use Rattle.std.proofs.Common.{◌≡◌, ◌≤◌, ◌+◌, drop}
use Rattle.ex_substitute.specs.LineCount.{break_times}
use Rattle.ex_substitute.proofs.line_count.break_times.Given as goal

-- those so far, with those from here on, are all
abbrev pub invariant-loop-piece : goal.invariant-loop-piece
invariant-loop-piece l = record {
  all : l.times + break_times (drop l.piece-index l.string) ≡ break_times l.string;
  few : l.times ≤ l.piece-index;
}
