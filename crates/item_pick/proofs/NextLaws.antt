-- Which items the nextgroup of a waiting item has.
use Rattle.item_pick.proofs.Common.{◌≡◌, ◌<◌, length, refl, sym, ◌∙◌, ap, Option, None, Some, slice_get, slice_get-get_or, get_or, ItemId, AddedItem, Rules, no_added, is_in_list, is_next}
use Rattle.syntax_set.specs.declared.item.GroupList.{GroupList}
use Rattle.syntax_set.specs.Allowed.{follows, passes}
use Rattle.syntax_set.specs.Membership.{is_member_of_option}

-- an item is a member of a list that may be absent
in_list : (r : Rules) (list : Option GroupList) (i : ItemId) → passes (is_member_of_option r.lists list 0) (slice_get r.items i.0) ≡ is_in_list r list i
in_list r list i = by list (slice_get r.items i.0) refl
  where
    by : (list : Option GroupList) (found : Option AddedItem) → slice_get r.items i.0 ≡ found → passes (is_member_of_option r.lists list 0) found ≡ is_in_list r list i
    by None None e = refl
    by None (Some added) e = refl
    by (Some list) None e = ap (passes (is_member_of_option r.lists (Some list) 0)) (sym e)
    by (Some list) (Some added) e = ap (passes (is_member_of_option r.lists (Some list) 0)) (sym e)

-- the waiting item is there
pub follows_next : (r : Rules) (waiting i : ItemId) → waiting.0 < length r.items → follows r.items r.lists i waiting ≡ is_next r waiting i
follows_next r waiting i there =
    ap (passes (λ (owner : AddedItem). passes (is_member_of_option r.lists owner.item.nextgroup 0) (slice_get r.items i.0)))
    (slice_get-get_or r.items waiting.0 no_added there)
    ∙ in_list r (get_or r.items waiting.0 no_added).item.nextgroup i
