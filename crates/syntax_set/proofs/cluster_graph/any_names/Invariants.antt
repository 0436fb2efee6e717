use Rattle.std.proofs.Common.{◌≤◌, ◌-◌}
use Rattle.syntax_set.specs.Reached.{NamesNone}
use Rattle.syntax_set.proofs.cluster_graph.any_names.Given as goal

-- none of the clusters up to here names the group
abbrev pub invariant-loop-place : goal.invariant-loop-place
invariant-loop-place l = record {
  within : l.from ≤ 128;
  none : NamesNone l.lists l.group l.first l.word l.from;
}

abbrev pub decreases-loop-place : goal.decreases-loop-place
decreases-loop-place l = 128 - l.from
