use Rattle.std.proofs.Common.{◌≡◌, ◌<◌, length, drop}
use Rattle.syn_reader.specs.Answers.{each}
use Rattle.syn_reader.specs.Clusters.{with_change_made}
use Rattle.syn_reader.proofs.clusters.make_changes.Given as goal

-- the parts so far, with those to come, are all, and the cluster is there
abbrev pub invariant-loop-change : goal.invariant-loop-change
invariant-loop-change l = record {
  whole : each (with_change_made l.cluster) l.names (drop l.change-index l.changes) ≡ each (with_change_made l.cluster) l.initial.names l.changes;
  within : l.cluster < length l.names.clusters.lists;
}
