use Rattle.std.proofs.Common.{◌≡◌, ◌≤◌, ◌++◌, drop}
use Rattle.syn_folds.specs.View.{view_of}
use Rattle.syn_folds.proofs.RunLaws.{rows_to_come}
use Rattle.syn_folds.proofs.rows.view.Given as goal

-- these rows, and those from the first line of the run that goes on, are all
abbrev pub invariant-loop-line : goal.invariant-loop-line
invariant-loop-line l = record {
  all : l.rows ++ rows_to_come l.close l.first l.line (drop l.line l.levels) ≡ view_of l.close l.levels;
  first : l.first ≤ l.line;
}
