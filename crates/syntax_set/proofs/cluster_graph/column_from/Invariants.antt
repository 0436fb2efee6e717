use Rattle.syntax_set.specs.Reached.{IsColumn}
use Rattle.syntax_set.proofs.cluster_graph.column_from.Given as goal

-- the column for so many levels
abbrev pub invariant-loop-level : goal.invariant-loop-level
invariant-loop-level l = IsColumn l.lists l._level l.first l.words.items
