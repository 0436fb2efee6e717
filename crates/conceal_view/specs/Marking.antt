-- A syntax in which what is concealed shows marks: its items and its clusters.
use Rattle.std.specs.Prelude.{ℕ, suc, ◌+◌, nat_eq, List, [], ◌∷◌, length, map, filter, Option, Some, None, if◌then◌else◌}
use Rattle.std.specs.Option.{option_map}
use Rattle.syn_base.specs.declared.places.GroupId.{GroupId}
use Rattle.syntax_set.specs.ClusterTable.{ClusterList, ClusterTable}
use Rattle.syntax_set.specs.Groups.{group_numbered}
use Rattle.syntax_set.specs.declared.added_item.AddedItem.{AddedItem}
use Rattle.syntax_set.specs.declared.item.Item.{Item}
use Rattle.syntax_set.specs.declared.item.ItemKind.{ItemKind}
use Rattle.syntax_set.specs.declared.item.ItemKind.TheVariants.{Keyword, Match, Region}
use Rattle.syntax_set.specs.declared.item.Pattern.{Pattern}
use Rattle.paint_marks.specs.Naming.{MarksOfGroups, marked_cluster, marked_list}
use Rattle.paint_marks.specs.OldGroups.{OldGroups}
use Rattle.conceal_view.specs.declared.marks.Mark.{Mark}
use Rattle.conceal_view.specs.Marks.{concealed_areas, concealed_body, marks_of, number_behind}
use Rattle.conceal_view.specs.View.{mark_of}

-- Groups and their marks

-- a group in its mark, where it is one of some groups whose marks are numbered from a number on
abbrev pub in_mark : ℕ → List ℕ → GroupId → GroupId
in_mark number [] group = group
in_mark number (g ∷ groups) group = if nat_eq group.0 g then group_numbered number else in_mark (suc number) groups group

-- the marks that stand for a group, in order
abbrev pub marks_by_group : List Mark → MarksOfGroups
marks_by_group marks group = map (λ mark. mark.number.0) (filter (λ mark. nat_eq mark.shown.0 group) marks)

-- the group that a group stands for: a mark for its old one, and any other for itself
abbrev pub shown_by : GroupId → Option Mark → GroupId
shown_by group None = group
shown_by group (Some mark) = mark.shown

abbrev pub old_groups : List Mark → OldGroups
old_groups marks group = shown_by group (mark_of marks group)

-- Items

abbrev pub marked_pattern : (GroupId → GroupId) → Pattern → Pattern
marked_pattern mark pattern = record pattern { matchgroup = option_map mark pattern.matchgroup }

-- a region shows the matchgroups of its starts and ends, and never that of its `skip`
abbrev pub marked_kind : (GroupId → GroupId) → ItemKind → ItemKind
marked_kind mark Keyword = Keyword
marked_kind mark (Match pattern) = Match pattern
marked_kind mark (Region starts skip ends) = Region (map (marked_pattern mark) starts) skip (map (marked_pattern mark) ends)

-- the body of an item, or a keyword, in its mark, and its areas in theirs, where marks are numbered from
-- a number on
abbrev pub body_in_mark : ℕ → Item → Item
body_in_mark number item = record item { group = in_mark number (concealed_body item) item.group }

abbrev pub areas_in_marks : ℕ → Item → Item
areas_in_marks number item = record item { kind = marked_kind (in_mark number (concealed_areas item)) item.kind }

-- a live item in its marks: first that of its body, then those of its areas
abbrev pub in_marks : ℕ → Item → Item
in_marks number item = areas_in_marks (number + length (concealed_body item)) (body_in_mark number item)

-- its lists name marks too
abbrev pub with_marks_named : MarksOfGroups → Item → Item
with_marks_named marks item = record item {
  contains = option_map (marked_list marks) item.contains;
  containedin = option_map (marked_list marks) item.containedin;
  nextgroup = option_map (marked_list marks) item.nextgroup;
}

abbrev pub marked_item : MarksOfGroups → ℕ → AddedItem → AddedItem
marked_item marks number added = record added {
  item = with_marks_named marks (if added.live then in_marks number added.item else added.item);
}

-- items whose marks are numbered from a number on
abbrev pub marked_from : MarksOfGroups → ℕ → List AddedItem → List AddedItem
marked_from marks number [] = []
marked_from marks number (added ∷ items) =
    marked_item marks number added ∷ marked_from marks (number_behind number added) items

-- The whole syntax

abbrev pub marks_of_groups : List AddedItem → MarksOfGroups
marks_of_groups items = marks_by_group (marks_of items)

abbrev pub marked_items : List AddedItem → List AddedItem
marked_items items = marked_from (marks_of_groups items) 20000 items

abbrev pub marked_lists : List AddedItem → List ClusterList → List ClusterList
marked_lists items lists = map (marked_cluster (marks_of_groups items)) lists

abbrev pub marked_clusters : List AddedItem → ClusterTable → ClusterTable
marked_clusters items table = record table { lists = marked_lists items table.lists }
