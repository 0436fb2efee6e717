-- Lists and clusters that name marks: behind each group that they name stand the marks of that group.
use Rattle.std.specs.Prelude.{ℕ, List, [], ◌∷◌, map}
use Rattle.std.specs.List.{flat_map}
use Rattle.syntax_set.specs.ClusterLists.{group_entry}
use Rattle.syntax_set.specs.ClusterTable.{ClusterList}
use Rattle.syntax_set.specs.Numbers.{with_numbers}
use Rattle.syntax_set.specs.declared.item.Entry.{Entry}
use Rattle.syntax_set.specs.declared.item.Entry.TheVariants.{Group, Cluster}
use Rattle.syntax_set.specs.declared.item.GroupList.{GroupList}

-- the marks of each group, by their numbers
abbrev pub MarksOfGroups : Type 0
MarksOfGroups = ℕ → List ℕ

abbrev pub named_with_marks : MarksOfGroups → ℕ → List ℕ
named_with_marks marks g = g ∷ marks g

abbrev pub entry_with_marks : MarksOfGroups → Entry → List Entry
entry_with_marks marks (Group group) = map group_entry (named_with_marks marks group.0)
entry_with_marks marks (Cluster cluster) = Cluster cluster ∷ []

-- what a list says besides its names stays: where those are left out of all items, the marks are too
abbrev pub marked_list : MarksOfGroups → GroupList → GroupList
marked_list marks list = record list { entries = flat_map (entry_with_marks marks) list.entries }

-- a cluster has each name once
abbrev pub marked_cluster : MarksOfGroups → ClusterList → ClusterList
marked_cluster marks list = record {
  groups = with_numbers [] (flat_map (named_with_marks marks) list.groups);
  clusters = with_numbers [] list.clusters;
}
