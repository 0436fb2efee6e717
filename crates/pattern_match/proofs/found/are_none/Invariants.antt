use Rattle.std.proofs.Common.{◌≡◌, take, replicate}
use Rattle.std.specs.Prelude.{None}
use Rattle.pattern_match.proofs.found.are_none.Given as goal

-- none of the groups so far matched
abbrev pub invariant-loop-group : goal.invariant-loop-group
invariant-loop-group l = take l.group-index l.groups ≡ replicate l.group-index None
