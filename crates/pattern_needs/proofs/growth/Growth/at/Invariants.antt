use Rattle.std.proofs.Common.{◌≡◌, ◌+◌, drop}
use Rattle.std.specs.Prelude.{IfSome}
use Rattle.pattern_needs.specs.Growths.{chosen, grown, once}
use Rattle.pattern_needs.proofs.growth.Growth.at.Given as goal

-- what is summed up, with what is left, is the whole
abbrev pub invariant-loop-k : goal.invariant-loop-k
invariant-loop-k l = record {
  known : IfSome l.known (λ n. n ≡ chosen l.k l.left);
  sum : l.sum + grown (drop l.k l.self.by) (chosen l.k) l.left ≡ grown l.self.by once l.left;
}
