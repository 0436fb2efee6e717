use Rattle.std.proofs.Common.{◌≡◌, ◌≤◌, map, take}
use Rattle.paint_marks.specs.Naming.{marked_cluster}
use Rattle.conceal_view.specs.MarkTables.{numbers_at}
use Rattle.conceal_view.proofs.marked_clusters.marked_clusters.Given as goal

-- the clusters up to here are made
abbrev pub invariant-loop-place : goal.invariant-loop-place
invariant-loop-place l = record {
  names : l.marked.names ≡ take l.place l.clusters.names;
  lists : l.marked.lists ≡ map (marked_cluster (numbers_at l.marks)) (take l.place l.clusters.lists);
  few : l.place ≤ 20000;
}
