-- Columns at which no item starts, since those that wander are settled and the others are idle.
use Rattle.item_pick.proofs.Common.{◌≡◌, refl, sym, subst, arith, ℕ, ◌+◌, ◌<◌, ◌≤◌, inl, inr, Bool, true, false, List, [], length, get_or, Looked, ItemId, Text, line_at, Rules, place_at, Choice, Run, IsQuiet, item_numbered, Covers, HoldsLine, item_wanders, admits, HasThose, IsNextAt, IsNumberAt, Lacks, ListStands, RunStands, ArePassed, AreSettled}
use Rattle.item_pick.proofs.TableLaws.{covered_quiet, has_or_lacks, IsLaw, no_key, stays_quiet}

-- an item that a run covers has no match up to the end of the run's places
pub covered_on : (r : Rules) (t : Text) (l at floor : ℕ) (k : Looked) (end : ℕ) (i : ItemId) (run : Run) → HoldsLine k l → RunStands r t l run → Covers run i at floor k end →
    end ≡ length (line_at t l) + 1 → (c : ℕ) → at ≤ c → c < run.places.end → IsQuiet r t (place_at l c) floor k i
covered_on r t l at floor k end i run held stands covers is c from below =
    covered_quiet r t l c floor k end i run held stands
    (record {
      same = covers.same;
      to = covers.to;
      above = omega (arith, covers.above, from);
      below = below;
      held = covers.held;
      enough = covers.enough;
    })
    is

-- each item of a list that wanders, or each that doesn't, is among some
pub has_those : (r : Rules) (wandering : Bool) (list those : List ℕ) →
    ((k : ℕ) → k < length list → get_or list k 0 < length r.items → item_wanders r (get_or list k 0) ≡ wandering → Lacks those (get_or list k 0) → ⊥) → HasThose r wandering list those
has_those r wandering list those told j within is lacks = elim (has_or_lacks list j) [
  | inl none ↦ none
  | inr has ↦ absurd (told has.0 has.1 (subst (λ n. n < length r.items) (sym has.2) within) (subst (λ n. item_wanders r n ≡ wandering) (sym has.2) is) (subst (Lacks those) (sym has.2) lacks))
]

module _ (r : Rules) (t : Text) (l : ℕ) (choice : Choice) (floor : ℕ) (k : Looked) where
  -- those that wander are settled, where those of a list of all items are
  pub settled_by : (from end : ℕ) (all those : List ℕ) → ListStands r choice 777 all → HasThose r true all those →
      ((n : ℕ) → n < length those → (c : ℕ) → from ≤ c → c < end → IsQuiet r t (place_at l c) floor k (item_numbered (get_or those n 0))) → AreSettled r t l choice floor k from end
  settled_by from end all those stands has quiet c a b j within admitted is = elim (has_or_lacks those j) [
    | inl lacks ↦ λ pattern its. absurd (no_key r choice all (item_numbered j) (stands j within admitted (has j within is lacks)) pattern its)
    | inr place ↦ subst (λ n. IsQuiet r t (place_at l c) floor k (item_numbered n)) place.2 (quiet place.0 place.1 c a b)
  ]

  -- the others don't start where those of a row don't
  pub still_by : IsLaw r → (number c : ℕ) (all rest : List ℕ) → ListStands r choice number all → HasThose r false all rest → IsNumberAt r (line_at t l) c number → HoldsLine k l →
      ((n : ℕ) → n < length rest → IsQuiet r t (place_at l c) floor k (item_numbered (get_or rest n 0))) → ArePassed r t l choice floor k false c
  still_by law number c all rest stands has key held quiet j within admitted is = elim (has_or_lacks rest j) [
    | inl lacks ↦ stays_quiet r law t (place_at l c) number key.1 (item_numbered j) (stands j within admitted (has j within is lacks)) floor k held
    | inr place ↦ subst (λ n. IsQuiet r t (place_at l c) floor k (item_numbered n)) place.2 (quiet place.0 place.1)
  ]

  module _ (c : ℕ) (wandering : ArePassed r t l choice floor k true c) (resting : ArePassed r t l choice floor k false c) where
    quiet_either : (j : ℕ) → j < length r.items → admits r choice (item_numbered j) ≡ true → (b : Bool) → item_wanders r j ≡ b → IsQuiet r t (place_at l c) floor k (item_numbered j)
    quiet_either j within admitted true is = wandering j within admitted is
    quiet_either j within admitted false is = resting j within admitted is

    -- so none is left
    pub none_left : IsNextAt r t (place_at l c) floor k [] choice (length r.items) 0
    none_left = (omega arith, λ j a b admitted. inr (quiet_either j b admitted (item_wanders r j) refl))
