use Rattle.std.proofs.Common.{◌≡◌, ◌-◌, ◌<◌}
use Rattle.std.specs.List.{All}
use Rattle.ex_substitute.specs.Deleting.{chosen_from}
use Rattle.ex_substitute.specs.Trials.{trial_in}
use Rattle.ex_substitute.proofs.AnswerLaws.{joined_to}
use Rattle.ex_substitute.proofs.trying.Trying.chosen.Given as goal

-- those so far, with those from here on, are all
abbrev pub invariant-loop-line : goal.invariant-loop-line
invariant-loop-line g l = let t = trial_in (g.T.Lines.lines l.lines) l.self in record {
  all : joined_to l.chosen (chosen_from t l.others l.line (l.b - l.line)) ≡ chosen_from t l.others l.a (l.b - l.a);
  within : All (λ line. line < l.b) l.chosen;
}
