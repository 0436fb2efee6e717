use Rattle.std.proofs.Common.{◌≡◌, ◌<◌, ℕ, List, length, map, subst, sym, ap, ◌∙◌}
use Rattle.std.specs.List.{All}
use Rattle.paint_marks.specs.Naming.{MarksOfGroups, marked_cluster}
use Rattle.syntax_set.specs.ClusterTable.{ClusterList, ClusterTable}
use Rattle.syntax_set.specs.declared.added_item.AddedItem.{AddedItem}
use Rattle.conceal_view.specs.declared.marks.Mark.{Mark}
use Rattle.conceal_view.specs.MarkedPaintings.{AllowTheSame, ListsHaveTheSame}
use Rattle.conceal_view.specs.Marking.{marked_from, marked_items, marked_lists, marks_by_group, marks_of_groups}
use Rattle.conceal_view.specs.MarkTables.{numbers_at}
use Rattle.conceal_view.specs.View.{AreNumbered}
use Rattle.conceal_view.proofs.MarkLaws.{as_many_items, marks_are_numbered, marks_are_of_items, marks_show_old_groups}
use Rattle.conceal_view.proofs.MarkedLaws.{lists_have_the_same, same_are_allowed}
use Rattle.conceal_view.proofs.marked.mark.Goals as goal

abbrev ShowOld : List Mark → Type 0
ShowOld marks = All (λ (mark : Mark). mark.shown.0 < 20000) marks

abbrev AreOf : ℕ → List Mark → Type 0
AreOf count marks = All (λ (mark : Mark). mark.item.0 < count) marks

pub returns-clause-numbered : goal.returns-clause-numbered
returns-clause-numbered c = subst (AreNumbered 20000) (sym c.in_ok-marks.ensures) (marks_are_numbered c.args.items.now)

pub returns-clause-of_items : goal.returns-clause-of_items
returns-clause-of_items c =
    let items = c.args.items.now in
    let as_many : length c.in_ok-items.items ≡ length items =
    ap (λ (made : List AddedItem). length made) c.in_ok-items.ensures ∙ as_many_items (numbers_at c.in_ok-of_groups.of_groups) 20000 items in
    subst (λ count. AreOf count c.in_ok-marks.marks) (sym as_many)
    (subst (AreOf (length items)) (sym c.in_ok-marks.ensures) (marks_are_of_items items))

pub returns-clause-shown : goal.returns-clause-shown
returns-clause-shown c = λ none. subst ShowOld (sym c.in_ok-marks.ensures) (marks_show_old_groups c.args.items.now c.args.clusters.now.lists none)

-- what holds of the marked syntax holds of what is made by its marks
of_what_is_made : (P : List AddedItem → List ClusterList → Type 0) (items marked : List AddedItem) (lists listed : List ClusterList) (marks : MarksOfGroups)
    → marks ≡ marks_of_groups items → marked ≡ marked_from marks 20000 items → listed ≡ map (marked_cluster marks) lists
    → P (marked_items items) (marked_lists items lists) → P marked listed
of_what_is_made P items marked lists listed marks same made named holds =
    subst (λ (ls : List ClusterList). P marked ls) (sym (named ∙ ap (λ (ms : MarksOfGroups). map (marked_cluster ms) lists) same))
    (subst (λ (xs : List AddedItem). P xs (marked_lists items lists)) (sym (made ∙ ap (λ (ms : MarksOfGroups). marked_from ms 20000 items) same)) holds)

pub returns-clause-allowed : goal.returns-clause-allowed
returns-clause-allowed c = λ none.
    let items = c.args.items.now in
    let lists = c.args.clusters.now.lists in
    of_what_is_made (AllowTheSame items lists) items c.in_ok-items.items lists c.in_ok-clusters.clusters.lists (numbers_at c.in_ok-of_groups.of_groups)
    (c.in_ok-of_groups.ensures ∙ ap marks_by_group (c.as_slice.ensures ∙ c.in_ok-marks.ensures))
    c.in_ok-items.ensures (ap (λ (t : ClusterTable). t.lists) c.in_ok-clusters.ensures)
    (same_are_allowed items lists none)

pub returns-clause-next : goal.returns-clause-next
returns-clause-next c = λ none.
    let items = c.args.items.now in
    let lists = c.args.clusters.now.lists in
    of_what_is_made (ListsHaveTheSame items lists) items c.in_ok-items.items lists c.in_ok-clusters.clusters.lists (numbers_at c.in_ok-of_groups.of_groups)
    (c.in_ok-of_groups.ensures ∙ ap marks_by_group (c.as_slice.ensures ∙ c.in_ok-marks.ensures))
    c.in_ok-items.ensures (ap (λ (t : ClusterTable). t.lists) c.in_ok-clusters.ensures)
    (lists_have_the_same items lists none)
