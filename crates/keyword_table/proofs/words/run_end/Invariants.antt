use Rattle.std.proofs.Common.{◌≡◌, ◌+◌, ◌-◌, ◌<◌, ◌≤◌, drop, length}
use Rattle.keyword_table.specs.Words.{run_length}
use Rattle.keyword_table.proofs.words.run_end.Given as goal

-- the run goes on from `end`
abbrev pub invariant-loop-end : goal.invariant-loop-end
invariant-loop-end l = record {
  ahead : l.col < l.end;
  inside : l.end ≤ length l.line;
  run : l.end + run_length l.set (drop l.end l.line) ≡ l.col + run_length l.set (drop l.col l.line);
}

abbrev pub decreases-loop-end : goal.decreases-loop-end
decreases-loop-end l = length l.line - l.end
