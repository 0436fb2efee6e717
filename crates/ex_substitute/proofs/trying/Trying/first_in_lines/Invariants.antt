use Rattle.std.proofs.Common.{◌≡◌, ◌-◌}
use Rattle.ex_substitute.specs.Trials.{counts_of, trial_in}
use Rattle.ex_substitute.specs.Trying.{first_of, places_of}
use Rattle.ex_substitute.proofs.trying.Trying.first_in_lines.Given as goal

-- what is found from this line on is what is found in all
abbrev pub invariant-loop-line : goal.invariant-loop-line
invariant-loop-line g l = let text = g.T.Lines.lines l.lines in record {
  rest : first_of (trial_in text l.self) (counts_of l.wanted) (places_of text l.line (l.b - l.line))
      ≡ first_of (trial_in text l.self) (counts_of l.wanted) (places_of text l.fn.from (l.b - l.fn.from));
}
