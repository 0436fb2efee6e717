use Rattle.region_ends.proofs.Common.{take, All, IsToldOf}
use Rattle.region_ends.proofs.opening.known_opening.Given as goal

-- it is known of the patterns before
abbrev pub invariant-loop-pattern : goal.invariant-loop-pattern
invariant-loop-pattern l = All (IsToldOf l.externals l.ignore l.opening) (take l.pattern-index l.ends)
