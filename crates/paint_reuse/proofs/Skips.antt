-- Lines that are passed over.
use Rattle.std.proofs.Common.{arith, subst, sym, ◌≡◌, ◌<◌, ◌≤◌, ◌+◌, ◌-◌, ℕ, suc, zero, List, [], ◌∷◌, take, drop, length, slice_get, get_or, Some, None, Option, Ok, refl}
use Rattle.std.proofs.lemmas.Option.{slice_get-get_or}
use Rattle.match_rules.specs.Ways.{Text}
use Rattle.paint_rules.specs.Rules.{Rules}
use Rattle.paint_rules.specs.States.{State, empty_state}
use Rattle.paint_reuse.specs.Change.{replaced}
use Rattle.paint_reuse.specs.Kept.{KeptNote, text_notes}
use Rattle.paint_reuse.specs.Local.{IsLocal}
use Rattle.paint_reuse.specs.Work.{Work, work, Along, AreUntouched, OldLines, Passes, before_at, state_by}
use Rattle.paint_reuse.proofs.Works.{along_more}
use Rattle.paint_reuse.proofs.Steps.{kept_stands}
use Rattle.paint_reuse.proofs.Patches.{went_kept}
use Rattle.paint_reuse.proofs.SameStates.{state_is_same}

module _ (rules : Rules) (local : IsLocal rules) (text : Text) (notes : List KeptNote) (painted : text_notes rules text ≡ Ok notes) (a b : ℕ) (new : List (List ℕ)) (ordered : a ≤ b) (inside : b ≤ length text) (first from to : ℕ)
    (were : OldLines (record { a = a; b = b; count = length new }) first from to) (within : to ≤ length notes)
    (whole : Work) (made0 P : List KeptNote) (told0 told1 : List ℕ) (c0 c1 : ℕ) where
  -- what holds when the walk is at line j, in the state before the old line j
  pub record At (g : Option State) (j : ℕ) : Type 0 where
    pub along : Along whole (work rules (replaced text a b new) notes (record { a = a; b = b; count = length new }) (first + (j - from)) (to - j) (state_by g (before_at empty_state notes j))) made0 (take j P) told0 told1 c0 c1
    pub below : drop j P ≡ drop j notes

  one_on : (j : ℕ) (note : KeptNote) → from ≤ j → j < to → slice_get notes j ≡ Some note → AreUntouched (record { a = a; b = b; count = length new }) notes j (suc j) → At None j → At None (suc j)
  one_on j note h l found clear at =
      let w = went_kept rules (replaced text a b new) notes (record { a = a; b = b; count = length new }) j (first + (j - from)) (before_at empty_state notes j) P told1 note at.below found (were j h l)
      (kept_stands rules local text notes painted a b new (first + (j - from)) j None note ordered inside (were j h l) found (clear j (first + (j - from)) note (omega arith) (omega arith) (were j h l) found) (state_is_same note.before)) in
      let n : to - j ≡ suc (to - suc j) = omega arith in
      let k : first + (suc j - from) ≡ suc (first + (j - from)) = omega arith in
      record {
        along = along_more rules (replaced text a b new) notes (record { a = a; b = b; count = length new }) whole j (suc j) (first + (j - from)) (first + (suc j - from)) (to - j) (to - suc j) (before_at empty_state notes j) None P P made0 told0 told1 told1 c0 c1 c1 refl k n at.along w (omega arith);
        below = w.rest;
      }

  pub skip : (d j j' : ℕ) → j' ≡ j + d → from ≤ j → j' ≤ to → AreUntouched (record { a = a; b = b; count = length new }) notes j j' → At None j → At None j'
  skip zero j j' e h l clear at = let q : j ≡ j' = omega arith in subst (At None) q at
  skip (suc d) j j' e h l clear at =
      let lt : j < length notes = omega arith in
      let next = one_on j (get_or notes j (no_note notes lt)) h (omega arith) (slice_get-get_or notes j _ lt) (λ i k note p q. clear i k note p (omega arith)) at in
      skip d (suc j) j' (omega arith) (omega arith) l (λ i k note p q. clear i k note (omega arith) q) next
    where
      no_note : (xs : List KeptNote) {n : ℕ} → n < length xs → KeptNote
      no_note [] h = absurd (omega arith)
      no_note (x ∷ xs) h = x

  pub pass : (g : Option State) (j j' : ℕ) → from ≤ j → j ≤ j' → j' ≤ to → Passes g (record { a = a; b = b; count = length new }) notes j j' → At g j → At g j'
  pass (Some s) j j' h m l e at = subst (At (Some s)) (sym e) at
  pass None j j' h m l e at = let q : j' ≡ j + (j' - j) = omega arith in skip (j' - j) j j' q h l e at
