use Rattle.std.proofs.Common.{◌≡◌, take}
use Rattle.syntax_set.proofs.copy.copied_patterns.Given as goal

-- the patterns up to here were copied
abbrev pub invariant-loop-pattern : goal.invariant-loop-pattern
invariant-loop-pattern l = l.copy ≡ take l.pattern-index l.patterns
