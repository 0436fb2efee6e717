use Rattle.std.proofs.Common.{◌≤◌}
use Rattle.pattern_needs.specs.Growths.{grown, once}
use Rattle.pattern_needs.proofs.longest.longest_within.Given as goal

abbrev pub invariant-loop : goal.invariant-loop
invariant-loop l = grown l.cost.by once l.most ≤ l.budget
