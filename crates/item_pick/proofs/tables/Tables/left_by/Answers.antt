use Rattle.item_pick.proofs.Common.{◌≡◌, Bool, true, false, not, ◌&&◌, list_any, same_item, item_numbered, admits, ℕ, List, reverse, subst, sym, IsNonDecreasing, place_at, rules_in, IsNextIn, ListStands}
use Rattle.item_pick.proofs.FutileLaws.{futile_by}
use Rattle.item_pick.proofs.TableLaws.{next_at}
use Rattle.item_pick.specs.Tables.{IsListed}
use Rattle.item_pick.proofs.tables.Tables.left_by.Goals as goal

pub returns-clause-next : goal.returns-clause-next
returns-clause-next c t l memory key held =
    let sets = c.args.asked.now.parts.now.sets.now in
    let budget = c.args.asked.now.budget in
    let r = rules_in c.args.asked.now.parts.now budget in
    let row = c.in_ok-row.ensures in
    let stands =
    subst (λ choice. ListStands r choice c.args.number c.in_ok-row.row.now.items.items) row.choice
    (subst (λ number. ListStands r c.in_ok-row.row.now.choice number c.in_ok-row.row.now.items.items) row.number (row.stands r memory.tables).lists) in
    next_at r (futile_by sets budget) t (place_at l c.args.search.now.at) c.args.number c.args.search.now.floor c.args.search.now.looked held key (reverse c.args.search.now.tried.now) c.args.choice c.in_ok-row.row.now.items.items stands
    c.args.left c.next_open.result c.requires (subst (λ (list : List ℕ). IsNextIn r t (place_at l c.args.search.now.at) c.args.search.now.floor c.args.search.now.looked (reverse c.args.search.now.tried.now) list c.args.left c.next_open.result) c.deref.ensures.value (c.next_open.ensures.next (subst (λ (list : List ℕ). IsNonDecreasing list) (sym c.deref.ensures.value) (row.stands r memory.tables).rises) t l memory key.0 held))

free_by : (tried : Bool) {admitted : Bool} → tried ≡ false → admitted ≡ true → (not tried && admitted) ≡ true
free_by tried e h = rw e h

pub returns-clause-free : goal.returns-clause-free
returns-clause-free c tables j e =
    let r = rules_in c.args.asked.now.parts.now c.args.asked.now.budget in
    let row = c.in_ok-row.ensures in
    let last = c.next_open.ensures.last j e in
    let listed = subst (λ list. IsListed list j) c.deref.ensures.value last.0 in
    let admitted = (row.stands r tables).admitted listed.0 0 listed.1 in
    free_by (list_any (same_item (item_numbered j)) (reverse c.args.search.now.tried.now)) last.1
    (subst (λ choice. admits r choice (item_numbered j) ≡ true) row.choice (subst (λ n. admits r c.in_ok-row.row.now.choice (item_numbered n) ≡ true) listed.2 admitted))
