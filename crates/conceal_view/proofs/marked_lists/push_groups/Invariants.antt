use Rattle.std.proofs.Common.{◌≡◌, ◌++◌, take, map}
use Rattle.syntax_set.specs.ClusterLists.{group_entry}
use Rattle.conceal_view.proofs.marked_lists.push_groups.Given as goal

-- the groups up to here were put
abbrev pub invariant-loop-group : goal.invariant-loop-group
invariant-loop-group l = l.entries ≡ l.initial.entries ++ map group_entry (take l.group-index l.groups)
