use Rattle.std.proofs.Common.{◌≡◌, ◌++◌, take, drop, map}
use Rattle.syntax_set.specs.Allowed.{cleared}
use Rattle.syntax_set.proofs.item_set.clear_all.Given as goal

-- the items up to here were cleared
abbrev pub invariant-loop-added : goal.invariant-loop-added
invariant-loop-added l = l.items ≡ map (cleared l.group) (take l.added-index l.initial.items) ++ drop l.added-index l.initial.items
