use Rattle.std.proofs.Common.{◌≤◌, ◌+◌, ◌-◌, length}
use Rattle.ex_substitute.specs.Trials.{AreVain}
use Rattle.ex_substitute.proofs.trying.Trying.next_column.Given as goal

-- the columns so far are passed over
abbrev pub invariant-columns : goal.invariant-columns
invariant-columns l = record {
  from : l.from ≤ l.col;
  passed : AreVain l.self l.line l.from l.col;
}

abbrev pub decreases-columns : goal.decreases-columns
decreases-columns l = length l.line + 1 - l.col
