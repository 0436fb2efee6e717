-- Marks that are named besides the groups that they stand for.
use Rattle.std.specs.Prelude.{◌≡◌, ℕ, true, List, nat_eq}
use Rattle.syn_base.specs.declared.places.GroupId.{GroupId}
use Rattle.syntax_set.specs.ClusterLists.{groups_in}
use Rattle.syntax_set.specs.ClusterTable.{ClusterList}
use Rattle.syntax_set.specs.Numbers.{has_number}
use Rattle.syntax_set.specs.declared.item.GroupList.{GroupList}
use Rattle.paint_marks.specs.Named.{NamesAlike, ClusterNamesAlike}
use Rattle.paint_marks.specs.Naming.{MarksOfGroups, marked_cluster, marked_list, named_with_marks}
use Rattle.paint_marks.specs.OldGroups.{OldGroups}

-- of some groups, a group is its old one or a mark of it, and no mark of another
abbrev pub StandsAmong : OldGroups → MarksOfGroups → GroupId → List ℕ → Type 0
StandsAmong old marks group groups =
    (g : ℕ) → has_number groups g ≡ true → has_number (named_with_marks marks g) group.0 ≡ nat_eq (old group).0 g

-- the laws, of a list and of a cluster: where the marks of each group are named behind it, a group is
-- named where its old one is
abbrev pub ListsWithMarks : Type 0
ListsWithMarks =
    (old : OldGroups) (marks : MarksOfGroups) (list : GroupList) (group : GroupId) →
    StandsAmong old marks group (groups_in list.entries) → NamesAlike old group (marked_list marks list) list

abbrev pub ClustersWithMarks : Type 0
ClustersWithMarks =
    (old : OldGroups) (marks : MarksOfGroups) (list : ClusterList) (group : GroupId) →
    StandsAmong old marks group list.groups → ClusterNamesAlike old group (marked_cluster marks list) list
