use Rattle.std.proofs.Common.{◌≡◌, ◌+◌, drop}
use Rattle.ex_substitute.specs.LineCount.{all_breaks}
use Rattle.ex_substitute.proofs.line_count.with_matches.Given as goal

-- the breaks so far, with those from here on, are all
abbrev pub invariant-loop-m : goal.invariant-loop-m
invariant-loop-m g l = let text = g.T.Lines.lines l.lines in
    l.count + all_breaks l.tally text l.at (drop l.m-index l.found) l.to ≡ l.fn.count + all_breaks l.tally text l.fn.from l.found l.to
