use Rattle.std.proofs.Common.{◌≡◌, ℕ, ◌<◌, [], length, get_or}
use Rattle.syntax_set.specs.ClusterLists.{list_at}
use Rattle.syntax_set.proofs.cluster_graph.all_named.Given as goal

-- the clusters up to here
abbrev pub invariant-loop-cluster : goal.invariant-loop-cluster
invariant-loop-cluster l = record {
  as_many : length l.named.items ≡ l.cluster;
  each : (cluster : ℕ) → cluster < l.cluster → get_or l.named.items cluster [] ≡ (list_at l.lists cluster).clusters;
}
