-- A marked syntax paints as the syntax itself, but for the groups that are shown.
use Rattle.std.specs.Prelude.{◌≡◌, List}
use Rattle.std.specs.declared.option.Option.{Option}
use Rattle.syn_base.specs.declared.places.ItemId.{ItemId}
use Rattle.match_rules.specs.Ways.{Text}
use Rattle.syntax_set.specs.Allowed.{is_allowed, is_in_next}
use Rattle.syntax_set.specs.ClusterTable.{ClusterList}
use Rattle.syntax_set.specs.declared.added_item.AddedItem.{AddedItem}
use Rattle.syntax_set.specs.declared.item.GroupList.{GroupList}
use Rattle.paint_rules.specs.Line.{painting}
use Rattle.paint_rules.specs.Rules.{Rules}
use Rattle.paint_marks.specs.Alike.{told_of, unmarked_told}
use Rattle.paint_marks.specs.Marked.{AreMarked}
use Rattle.paint_marks.specs.Naming.{marked_list}
use Rattle.conceal_view.specs.Marks.{marks_of}
use Rattle.conceal_view.specs.Marking.{marked_items, marked_lists, marks_of_groups, old_groups}
use Rattle.syntax_set.specs.NoMarks.{HaveNoMarks, ListHasNoMarks}

-- the same items may start in each container, or on the empty stack
abbrev pub AllowTheSame : List AddedItem → List ClusterList → List AddedItem → List ClusterList → Type 0
AllowTheSame items lists marked marked_lists =
    (i : ItemId) (container : Option ItemId) → is_allowed marked marked_lists i container ≡ is_allowed items lists i container

-- each list has the same items as with marks named in it
abbrev pub ListsHaveTheSame : List AddedItem → List ClusterList → List AddedItem → List ClusterList → Type 0
ListsHaveTheSame items lists marked marked_lists =
    (i : ItemId) (list : GroupList) → ListHasNoMarks list
    → is_in_next marked marked_lists i (marked_list (marks_of_groups items) list) ≡ is_in_next items lists i list

-- the marked syntax
abbrev pub marked_rules : Rules → Rules
marked_rules r = record r { items = marked_items r.items; lists = marked_lists r.items r.lists }

-- it is a marked form of the syntax
abbrev pub MarkedRulesAreMarked : Type 0
MarkedRulesAreMarked =
    (r : Rules) → HaveNoMarks r.items r.lists → AreMarked (old_groups (marks_of r.items)) (marked_rules r) r

-- So with each mark replaced by its old group, and equal neighbours joined, the spans of a text by it are
-- those by the syntax itself, and it refuses the same, with the same line, column and item.
abbrev pub MarkedPaintingsAreTheOldOnes : Type 0
MarkedPaintingsAreTheOldOnes =
    (r : Rules) → HaveNoMarks r.items r.lists →
    (t : Text) → unmarked_told (old_groups (marks_of r.items)) (told_of (painting (marked_rules r) t)) ≡ told_of (painting r t)
