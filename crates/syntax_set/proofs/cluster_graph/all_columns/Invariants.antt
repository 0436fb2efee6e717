use Rattle.std.proofs.Common.{◌≡◌, ℕ, ◌<◌, ◌*◌, [], length, get_or}
use Rattle.syntax_set.specs.Reached.{IsColumn}
use Rattle.syntax_set.proofs.cluster_graph.all_columns.Given as goal

-- the columns up to here
abbrev pub invariant-loop-k : goal.invariant-loop-k
invariant-loop-k l = record {
  as_many : length l.columns.items ≡ l.k;
  each : (k : ℕ) → k < l.k → IsColumn l.lists 30 (128 * k) (get_or l.columns.items k []);
}
