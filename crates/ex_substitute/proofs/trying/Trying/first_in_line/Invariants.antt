use Rattle.std.proofs.Common.{◌≡◌, ◌+◌, ◌-◌, length}
use Rattle.match_rules.specs.Ways.{line_at}
use Rattle.ex_substitute.specs.Trials.{counts_of, trial_in}
use Rattle.ex_substitute.specs.Trying.{columns, first_of, places_in}
use Rattle.ex_substitute.proofs.trying.Trying.first_in_line.Given as goal

-- what is found from here on is what is found in all
abbrev pub invariant-columns : goal.invariant-columns
invariant-columns g l = let text = g.T.Lines.lines l.lines in record {
  rest : first_of (trial_in text l.self) (counts_of l.wanted) (columns l.line l.at (length (line_at text l.line) + 1 - l.at))
      ≡ first_of (trial_in text l.self) (counts_of l.wanted) (places_in text l.line l.col);
}

abbrev pub decreases-columns : goal.decreases-columns
decreases-columns g l = length l.chars + 1 - l.at
