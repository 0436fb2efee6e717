-- An item that may start is one of the syntax, and a live one.
use Rattle.std.proofs.Common.{◌≡◌, ◌<◌, ℕ, Bool, true, false, List, [], ◌∷◌, length, refl, ap}
use Rattle.std.specs.Prelude.{Option, Some, None, not, ◌&&◌, nat_eq, slice_get}
use Rattle.std.proofs.lemmas.Option.{slice_get_within}
use Rattle.syn_base.specs.declared.places.ItemId.{ItemId}
use Rattle.syntax_set.specs.declared.added_item.AddedItem.{AddedItem}
use Rattle.syntax_set.specs.declared.item.GroupList.{GroupList}
use Rattle.syntax_set.specs.Allowed.{passes, is_free, is_allowed_in as is_allowed_by}
use Rattle.syntax_set.specs.Membership.{is_member}
use Rattle.paint_rules.specs.Frames.{Frame}
use Rattle.paint_rules.specs.Rules.{Rules, item_of}
use Rattle.paint_rules.specs.Lists.{is_allowed_in, is_in_list, is_next}
use Rattle.paint_rules.specs.Close.{is_body}
use Rattle.paint_rules.specs.Pick.{container_of, is_allowed}

pub both_true : (a b : Bool) → a && b ≡ true → (a ≡ true) × (b ≡ true)
both_true true true e = (refl, refl)
both_true true false e = absurd (cc)
both_true false b e = absurd (cc)

within_by : (test : AddedItem → Bool) (items : List AddedItem) (n : ℕ) (o : Option AddedItem) →
    slice_get items n ≡ o →
    passes test o ≡ true → n < length items
within_by test items n None e p = absurd (cc)
within_by test items n (Some x) e p = slice_get_within items n x e

passes_within : (test : AddedItem → Bool) (items : List AddedItem) (n : ℕ) →
    passes test (slice_get items n) ≡ true → n < length items
passes_within test items n p = within_by test items n (slice_get items n) refl p

module _ (r : Rules) where
  in_within : (container : Option ItemId) (i : ItemId) → is_allowed_in r container i ≡ true →
      i.0 < length r.items
  in_within None i e = passes_within is_free r.items i.0 e
  in_within (Some c) i e =
      passes_within
      (λ added. passes (is_allowed_by r.lists added) (slice_get r.items c.0)) r.items i.0 e

  pub allowed_within : (stack : List Frame) (i : ItemId) → is_allowed r stack i ≡ true →
      i.0 < length r.items
  allowed_within [] i e = in_within None i e
  allowed_within (top ∷ below) i e =
      in_within (container_of r (top ∷ below)) i
      (both_true (is_body top.part) (is_allowed_in r (container_of r (top ∷ below)) i) e).1

  listed_within : (list : Option GroupList) (i : ItemId) → is_in_list r list i ≡ true →
      i.0 < length r.items
  listed_within None i e = absurd (cc)
  listed_within (Some list) i e = passes_within (is_member r.lists list 0) r.items i.0 e

  pub next_within : (w i : ItemId) → is_next r w i ≡ true → i.0 < length r.items
  next_within w i e = listed_within (item_of r.items w).nextgroup i e

  -- on an empty stack no item is allowed that isn't live
  none_free : (o : Option AddedItem) →
      ((added : AddedItem) → Some added ≡ o → added.live ≡ false) → passes is_free o ≡ false
  none_free None dead = refl
  none_free (Some added) dead =
      ap (λ live. live && not (added.item).contained && nat_eq (added.item).include 0)
      (dead added refl)

  pub none_allowed :
      ((i : ℕ) (added : AddedItem) → Some added ≡ slice_get r.items i → added.live ≡ false) →
      (i : ItemId) → is_allowed r [] i ≡ false
  none_allowed dead i = none_free (slice_get r.items i.0) (dead i.0)
