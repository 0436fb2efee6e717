use Rattle.vim_pattern.specs.Shape.{bare}
use Rattle.pattern_needs.specs.Fronts.{stopped}
use Rattle.pattern_needs.specs.Spreads.{IsSpread, then_spreads}
use Rattle.pattern_needs.specs.declared.spread.Spreads.{Spreads}
use Rattle.pattern_needs.proofs.spreading.stopped_spread.Given as goal

abbrev pub decreases-loop-left : goal.decreases-loop-left
decreases-loop-left l = l.left

-- what is known, with what is left behind it, is what all have
abbrev pub invariant-loop-left : goal.invariant-loop-left
invariant-loop-left l =
    (s : Spreads) → IsSpread l.by.sets.now l.by.ignore l.most (stopped (bare l.rest) l.left) s → IsSpread l.by.sets.now l.by.ignore l.most (stopped (bare l.node) l.number) (then_spreads l.known s)
