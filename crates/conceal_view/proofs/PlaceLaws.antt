-- The mark of a group by its place among those that have marks.
use Rattle.std.proofs.Common.{◌≡◌, ℕ, zero, suc, ◌+◌, ◌<◌, Bool, true, false, List, [], ◌∷◌, length, get_or, add-zero, arith, refl, sym, ap, ◌∙◌}
use Rattle.std.specs.Prelude.{nat_eq, cond, position, ◌||◌, Some}
use Rattle.std.specs.List.{list_any}
use Rattle.std.proofs.lemmas.List.Quantifiers.{position-Some}
use Rattle.syn_base.specs.declared.places.GroupId.{GroupId}
use Rattle.conceal_view.specs.Marking.{in_mark}
use Rattle.syntax_set.specs.Groups.{group_numbered}

at_place : (n : ℕ) (groups : List ℕ) (group : GroupId) (place : ℕ) → place < length groups
    → nat_eq group.0 (get_or groups place 0) ≡ true
    → ((k : ℕ) → k < place → nat_eq group.0 (get_or groups k 0) ≡ false)
    → in_mark n groups group ≡ group_numbered (n + place)
at_place n [] group place within same others = absurd (omega arith)
at_place n (g ∷ groups) group zero within same others =
    ap (λ b. cond b (group_numbered n) (in_mark (suc n) groups group)) same ∙ ap group_numbered (sym (add-zero n))
at_place n (g ∷ groups) group (suc place) within same others =
    ap (λ b. cond b (group_numbered n) (in_mark (suc n) groups group)) (others 0 (omega arith))
    ∙ at_place (suc n) groups group place (omega arith) same (λ k below. others (suc k) (omega arith))
    ∙ ap group_numbered (omega arith)

pub in_mark_at : (n : ℕ) (groups : List ℕ) (group : GroupId) (place : ℕ) → position (nat_eq group.0) groups ≡ Some place
    → in_mark n groups group ≡ group_numbered (n + place)
in_mark_at n groups group place e =
    let found = position-Some (nat_eq group.0) groups place 0 e in
    at_place n groups group place found.0 found.1 found.2

pub in_mark_none : (n : ℕ) (groups : List ℕ) (group : GroupId) → list_any (nat_eq group.0) groups ≡ false → in_mark n groups group ≡ group
in_mark_none n [] group none = refl
in_mark_none n (g ∷ groups) group none = by (nat_eq group.0 g) refl (in_mark_none (suc n) groups group)
  where
    by : (b : Bool) → nat_eq group.0 g ≡ b → (list_any (nat_eq group.0) groups ≡ false → in_mark (suc n) groups group ≡ group)
        → cond b (group_numbered n) (in_mark (suc n) groups group) ≡ group
    by true same behind = absurd (cc)
    by false other behind = behind (sym (ap (λ b. b || list_any (nat_eq group.0) groups) other) ∙ none)
