use Rattle.std.proofs.Common.{◌≡◌, ◌≤◌, ◌+◌, drop}
use Rattle.ex_substitute.specs.LineCount.{breaks_by, group_breaks, weigh}
use Rattle.ex_substitute.proofs.line_count.with_string.Given as goal

-- the breaks so far, with those from here on, are all
abbrev pub invariant-loop-number : goal.invariant-loop-number
invariant-loop-number g l = let text = g.T.Lines.lines l.lines in record {
  all : l.count + weigh (drop l.number l.tally.groups) (group_breaks text l.m) l.number ≡ l.fn.count + breaks_by l.tally text l.m;
  few : l.count ≤ 2000000;
}
