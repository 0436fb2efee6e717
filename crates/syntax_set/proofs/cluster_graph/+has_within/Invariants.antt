use Rattle.std.proofs.Common.{◌≡◌, ◌-◌, false, take}
use Rattle.std.specs.List.{list_any}
use Rattle.syntax_set.specs.Membership.{cluster_has}
use Rattle.syntax_set.proofs.cluster_graph.+has_within.Given as goal

-- the clusters up to here don't have the group
abbrev pub invariant-loop-named : goal.invariant-loop-named
invariant-loop-named l = list_any (cluster_has l.lists (l.levels - 1) l.group) (take l.named-index l.named-items) ≡ false

abbrev pub decreases-has_within : goal.decreases-has_within
decreases-has_within l = l.levels
