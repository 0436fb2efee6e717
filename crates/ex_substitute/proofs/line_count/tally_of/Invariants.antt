use Rattle.std.proofs.Common.{◌≡◌, ◌-◌, ◌++◌}
use Rattle.ex_substitute.specs.LineCount.{times_from}
use Rattle.ex_substitute.proofs.line_count.tally_of.Given as goal

-- those so far, with those from here on, are all
abbrev pub invariant-loop-number : goal.invariant-loop-number
invariant-loop-number l = l.groups ++ times_from l.string l.number (10 - l.number) ≡ times_from l.string 0 10
