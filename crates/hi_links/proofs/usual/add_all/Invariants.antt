use Rattle.std.proofs.Common.{◌≡◌, ◌<◌, ◌≤◌, [], length, take}
use Rattle.hi_links.specs.UsualGroups.{groups_and_links, with_all_usual}
use Rattle.hi_links.specs.UsualRows.{usual_rows}
use Rattle.hi_links.proofs.usual.add_all.Given as goal

-- the groups so far are made
abbrev pub invariant-loop-row : goal.invariant-loop-row
invariant-loop-row l = record {
  so_far : groups_and_links l.groups l.links ≡ with_all_usual (groups_and_links l.initial.groups []) (take l.row-index (usual_rows l.rows));
  most : 0 < l.row-index → length l.groups ≤ 20000;
}
