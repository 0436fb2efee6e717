use Rattle.conceal_view.proofs.LongestLaws.{spans_are_the_longest_runs}
use Rattle.conceal_view.proofs.laws.spans_are_the_longest_runs.Goals as goal

pub returns : goal.returns
returns c = spans_are_the_longest_runs
