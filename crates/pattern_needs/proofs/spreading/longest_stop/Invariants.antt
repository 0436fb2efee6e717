use Rattle.vim_pattern.specs.Shape.{bare}
use Rattle.pattern_needs.specs.Fronts.{stopped}
use Rattle.pattern_needs.specs.Spreads.{IsCheapPart}
use Rattle.pattern_needs.proofs.spreading.longest_stop.Given as goal

abbrev pub invariant-loop : goal.invariant-loop
invariant-loop l = IsCheapPart l.by.sets.now l.by.ignore l.most (stopped (bare l.node) l.number) l.budget
