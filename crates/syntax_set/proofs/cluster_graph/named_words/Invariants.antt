use Rattle.std.proofs.Common.{◌≡◌, take}
use Rattle.syntax_set.specs.Reached.{named_words}
use Rattle.syntax_set.proofs.cluster_graph.named_words.Given as goal

-- the bits of the words of the clusters up to here
abbrev pub invariant-loop-cluster : goal.invariant-loop-cluster
invariant-loop-cluster l = l.word ≡ named_words l.words (take l.cluster-index l.clusters)
