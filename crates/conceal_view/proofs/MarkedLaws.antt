-- The marked syntax is a marked form of the syntax, and paints as it.
use Rattle.std.proofs.Common.{List, [], sym, refl}
use Rattle.syntax_set.specs.ClusterTable.{ClusterList}
use Rattle.syntax_set.specs.declared.added_item.AddedItem.{AddedItem}
use Rattle.paint_rules.specs.Rules.{Rules, item_of}
use Rattle.paint_rules.specs.Syntax.{rules_of}
use Rattle.paint_marks.specs.Named.{AreMarkedWithLists}
use Rattle.paint_marks.specs.Naming.{marked_list}
use Rattle.paint_marks.proofs.NameLaws.{lists_are_enough, members_are_the_same}
use Rattle.paint_marks.proofs.TextLaws.{spans_are_alike}
use Rattle.conceal_view.specs.MarkedPaintings.{AllowTheSame, ListsHaveTheSame, MarkedPaintingsAreTheOldOnes, MarkedRulesAreMarked, marked_rules}
use Rattle.conceal_view.specs.Marks.{marks_of}
use Rattle.conceal_view.specs.Marking.{marked_items, marked_lists, marks_by_group, old_groups}
use Rattle.syntax_set.specs.NoMarks.{HaveNoMarks}
use Rattle.conceal_view.proofs.MarkLaws.{as_many_items, marks_are_numbered}
use Rattle.conceal_view.proofs.NamedLaws.{clusters_name_alike, items_name_alike, list_names_alike}
use Rattle.conceal_view.proofs.OldLaws.{items_back, old_of_mark, old_of_other}

marked_with_lists : (r : Rules) → HaveNoMarks r.items r.lists → AreMarkedWithLists (old_groups (marks_of r.items)) (marked_rules r) r
marked_with_lists r h =
    let marks = marks_of r.items in
    let numbered = marks_are_numbered r.items in
    record {
      as_many = sym (as_many_items (marks_by_group marks) 20000 r.items);
      each = λ i. items_back (old_groups marks) (old_of_other marks numbered) (marks_by_group marks) 20000 0 r.items h.items_have_none (old_of_mark marks numbered) i.0;
      lists = λ of i. items_name_alike marks numbered (item_of (marked_items r.items) of).group 20000 r.items h.items_have_none i.0;
      clusters = λ of cluster. clusters_name_alike marks numbered (item_of (marked_items r.items) of).group r.lists h.clusters_have_none cluster;
      else_same = refl;
    }

pub marked_rules_are_marked : MarkedRulesAreMarked
marked_rules_are_marked r h = lists_are_enough (old_groups (marks_of r.items)) (marked_rules r) r (marked_with_lists r h)

pub marked_paintings_are_the_old_ones : MarkedPaintingsAreTheOldOnes
marked_paintings_are_the_old_ones r h t =
    spans_are_alike (old_groups (marks_of r.items)) (marked_rules r) r (marked_rules_are_marked r h) t

-- a syntax without keywords
abbrev rules_with : List AddedItem → List ClusterList → Rules
rules_with items lists = rules_of items lists [] (record { ident = []; keyword = []; file = [] }) 0

pub same_are_allowed : (items : List AddedItem) (lists : List ClusterList) → HaveNoMarks items lists
    → AllowTheSame items lists (marked_items items) (marked_lists items lists)
same_are_allowed items lists h i container = sym ((marked_rules_are_marked (rules_with items lists) h).allowed container i)

pub lists_have_the_same : (items : List AddedItem) (lists : List ClusterList) → HaveNoMarks items lists
    → ListsHaveTheSame items lists (marked_items items) (marked_lists items lists)
lists_have_the_same items lists h i list none =
    let r = rules_with items lists in
    let marks = marks_of items in
    sym (members_are_the_same (old_groups marks) (marked_rules r) r (marked_with_lists r h) i (marked_list (marks_by_group marks) list) list
    (list_names_alike marks (marks_are_numbered items) (item_of (marked_items items) i).group list none))
