use Rattle.std.proofs.Common.{◌≡◌, ℕ, ◌<◌, [], length, get_or}
use Rattle.syntax_set.specs.Reached.{next_word, word_at}
use Rattle.syntax_set.proofs.cluster_graph.next_words.Given as goal

-- the clusters up to here have their words
abbrev pub invariant-loop-cluster : goal.invariant-loop-cluster
invariant-loop-cluster l = record {
  as_many : length l.next.items ≡ l.cluster;
  each : (cluster : ℕ) → cluster < l.cluster → word_at l.next.items cluster ≡ next_word l.first l.words cluster (get_or l.named cluster []);
}
