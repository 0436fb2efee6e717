use Rattle.std.proofs.Common.{ℕ, ◌<◌, ◌*◌, [], get_or}
use Rattle.syntax_set.specs.Reached.{NamesNone, word_at}
use Rattle.syntax_set.proofs.cluster_graph.leads_to_group.Given as goal

-- none of the columns up to here has a cluster that names the group
abbrev pub invariant-loop-k : goal.invariant-loop-k
invariant-loop-k l = (k : ℕ) → k < l.k → NamesNone l.lists l.group (128 * k) (word_at (get_or l.columns k []) l.cluster) 128
