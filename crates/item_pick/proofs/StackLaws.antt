-- Walking down a stack, whose top is first.
use Rattle.item_pick.proofs.Common.{◌≡◌, ◌∙◌, sym, ap, subst, Bool, true, false, List, [], ◌∷◌, length, Option, Some, ◌&&◌, ForSome, ItemId, Frame, Rules, is_allowed_in, is_allowed, IsItem, container_of, is_clear, is_body}
use Rattle.paint_rules.specs.States.{Fits}

-- what the top frame says of an item
module _ (r : Rules) (stack : List Frame) (top : Frame) (below : List Frame) (is : stack ≡ top ∷ below) where
  by_top : (i : ItemId) → is_allowed r stack i ≡ (is_body top.part && is_allowed_in r (container_of r stack) i)
  by_top i = (λ x. is_allowed r (is x) i) ∙ ap (λ o. is_body top.part && is_allowed_in r o i) (sym (ap (container_of r) is))

  pub allowed_within : is_body top.part ≡ true → (i : ItemId) → is_allowed r stack i ≡ is_allowed_in r (container_of r stack) i
  allowed_within e i = by_top i ∙ ap (λ b. b && is_allowed_in r (container_of r stack) i) e

  pub not_allowed : is_body top.part ≡ false → (i : ItemId) → is_allowed r stack i ≡ false
  not_allowed e i = by_top i ∙ ap (λ b. b && is_allowed_in r (container_of r stack) i) e

-- the container is one of the items
module _ (r : Rules) where
  container_fits_by : (f : Frame) (below : List Frame) → IsItem r f.item → ForSome (container_of r below) (IsItem r) → (b : Bool) →
      ForSome (elim b as (λ _. Option ItemId) [ true ↦ container_of r below | false ↦ Some f.item ]) (IsItem r)
  container_fits_by f below item rest true = rest
  container_fits_by f below item rest false = λ x e. let is : f.item ≡ x = cc in subst (IsItem r) is item

  pub container_fits : (stack : List Frame) → Fits (length r.items) stack → ForSome (container_of r stack) (IsItem r)
  container_fits [] h = λ x e. absurd (cc)
  container_fits (f ∷ below) h = container_fits_by f below h.0 (container_fits below h.1) (is_clear r f)
