use Rattle.syn_folds.proofs.StretchLaws.{stand_in_order, the_stretches}
use Rattle.syn_folds.proofs.laws.folds_are_the_longest_stretches.Goals as goal

pub returns-clause-stretches : goal.returns-clause-stretches
returns-clause-stretches c = the_stretches

pub returns-clause-order : goal.returns-clause-order
returns-clause-order c = stand_in_order
