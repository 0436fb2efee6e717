use Rattle.std.proofs.Common.{◌≡◌, [], drop}
use Rattle.syn_reader.specs.PatternsOfNames.{matching_after}
use Rattle.syn_reader.proofs.names_pattern.matching_whole.Given as goal

-- the groups so far, with those to come, are all
abbrev pub invariant-loop-number : goal.invariant-loop-number
invariant-loop-number l = matching_after l.trial.whole l.found l.number (drop l.number l.groups) ≡ matching_after l.trial.whole [] 0 l.groups
