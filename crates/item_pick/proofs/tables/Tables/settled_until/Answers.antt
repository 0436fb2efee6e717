use Rattle.item_pick.proofs.Common.{◌<◌, ◌≤◌, ℕ, List, get_or, length, subst, IfSome, true, place_at, IsQuiet, item_numbered, HasThose, ListStands}
use Rattle.item_pick.proofs.SettledLaws.{settled_by}
use Rattle.item_pick.proofs.tables.Tables.settled_until.Goals as goal

pub returns-in-Some-wandering : goal.returns-in-Some-wandering
returns-in-Some-wandering c r t l memory held =
    let sought = c.args.search.now in
    let row = c.in-Some.all.now in
    let told = c.in-Some.ensures in
    let row-stands = told.stands r memory.tables in
    let stands =
    subst (λ choice. ListStands r choice 777 row.items.items) told.choice
    (subst (λ number. ListStands r row.choice number row.items.items) told.number row-stands.lists) in
    let has = subst (λ o. IfSome o (λ those. HasThose r true row.items.items those.items)) c.in-Some-wandering.is row-stands.wandering in
    settled_by r t l c.args.choice sought.floor sought.looked sought.at c.settled_until.result row.items.items c.in-Some-wandering.list.items stands has
    (subst (λ (list : List ℕ). (n : ℕ) → n < length list → (x : ℕ) → sought.at ≤ x → x < c.settled_until.result → IsQuiet r t (place_at l x) sought.floor sought.looked (item_numbered (get_or list n 0))) c.as_slice.ensures.value
    (c.settled_until.ensures r t l memory.line held))
