use Rattle.item_pick.proofs.Common.{◌<◌, ℕ, List, get_or, length, subst, place_at, rules_by, IsQuiet, item_numbered, ListStands}
use Rattle.item_pick.proofs.FutileLaws.{futile_by}
use Rattle.item_pick.proofs.SettledLaws.{still_by}
use Rattle.item_pick.proofs.tables.Tables.is_still.Goals as goal

pub returns : goal.returns
returns c = λ e t l memory key floor held.
    let asked = c.args.asked.now in
    let r = rules_by asked in
    let looked = c.args.looked in
    let row = c.in_ok-row.row.now in
    let told = c.in_ok-row.ensures in
    let row-stands = told.stands r memory.tables in
    let stands =
    subst (λ choice. ListStands r choice c.args.number row.items.items) told.choice
    (subst (λ number. ListStands r row.choice number row.items.items) told.number row-stands.lists) in
    still_by r t l c.args.choice floor looked (futile_by asked.parts.now.sets.now asked.budget) c.args.number c.args.col row.items.items row.resting.items stands row-stands.resting key held
    (subst (λ (list : List ℕ). (n : ℕ) → n < length list → IsQuiet r t (place_at l c.args.col) floor looked (item_numbered (get_or list n 0))) c.as_slice.ensures.value
    (c.are_still.ensures e t l memory key floor held))
