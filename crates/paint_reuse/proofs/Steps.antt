-- One line of a walk.
use Rattle.std.proofs.Common.{◌+◌, arith, sym, ap, ◌∙◌, ◌≡◌, ◌<◌, ◌≤◌, ℕ, zero, suc, List, [], ◌∷◌, length, slice_get, Some, None, Ok, true, false, refl}
use Rattle.std.specs.Prelude.{Option, ◌&&◌, Bool}
use Rattle.std.proofs.lemmas.Bool.{and_parts}
use Rattle.std.proofs.lemmas.Option.{slice_get_within}
use Rattle.match_rules.specs.Ways.{Text}
use Rattle.paint_rules.specs.Rules.{Rules}
use Rattle.paint_rules.specs.States.{State, empty_state}
use Rattle.paint_reuse.specs.declared.change.Change.{Change}
use Rattle.paint_reuse.specs.Change.{old_line, replaced}
use Rattle.paint_reuse.specs.Kept.{KeptNote, line_note, note_at, notes_from, text_notes}
use Rattle.paint_reuse.specs.Local.{IsLocal}
use Rattle.paint_reuse.specs.Reuse.{is_reusable, may_stay, stays_as}
use Rattle.paint_reuse.specs.SameState.{same_state}
use Rattle.paint_reuse.specs.Work.{before_at, is_untouched, reusable, state_by}
use Rattle.paint_reuse.proofs.ReuseLaw.{untouched_stands}
use Rattle.paint_reuse.proofs.SameStates.{same_state_is}
use Rattle.paint_reuse.proofs.Walks.{kept}

-- a note of those of a text
pub note_from : (l : ℕ) (notes : List KeptNote) (j : ℕ) (note : KeptNote) → slice_get notes j ≡ Some note → slice_get (notes_from l notes) j ≡ Some (note_at (l + j) note)
note_from l [] j note h = absurd cc
note_from l (x ∷ notes) zero note h =
    let e : x ≡ note = cc in
    let z : l ≡ l + 0 = omega arith in
    ap (λ (n : KeptNote). Some (note_at l n)) e ∙ ap (λ (m : ℕ). Some (note_at m note)) z
note_from l (x ∷ notes) (suc j) note h =
    let z : suc l + j ≡ l + suc j = omega arith in
    note_from (suc l) notes j note h ∙ ap (λ (m : ℕ). Some (note_at m note)) z

-- whether a line is reusable, by the note of its old line
pub reusable_is : (notes : List KeptNote) (e : Change) (k j : ℕ) (s : State) (note : KeptNote) → old_line e k ≡ Some j → slice_get notes j ≡ Some note → reusable notes e k s ≡ (is_untouched e j k note.looked && same_state note.before s)
unfolding is_reusable
reusable_is notes e k j s note was found =
    let z : 0 + j ≡ j = omega arith in
    ap (stays_as (notes_from 0 notes) e k s) was ∙ ap (may_stay e j k s) (note_from 0 notes j note found ∙ ap (λ (m : ℕ). Some (note_at m note)) z)

-- a new line is none
pub new_is_none : (notes : List KeptNote) (e : Change) (k : ℕ) (s : State) → old_line e k ≡ None → reusable notes e k s ≡ false
unfolding is_reusable
new_is_none notes e k s fresh = ap (stays_as (notes_from 0 notes) e k s) fresh

note_there : (notes : List KeptNote) (j : ℕ) → j < length notes → (note : KeptNote) × (slice_get notes j ≡ Some note)
note_there [] j h = absurd (omega arith)
note_there (x ∷ notes) zero h = (x, refl)
note_there (x ∷ notes) (suc j) h = note_there notes j (omega arith)

module _ (rules : Rules) (local : IsLocal rules) (text : Text) (notes : List KeptNote) (painted : text_notes rules text ≡ Ok notes) where
  pub before_is_old : (j : ℕ) (note : KeptNote) → slice_get notes j ≡ Some note → note.before ≡ before_at empty_state notes j
  before_is_old j note found = ((kept rules text notes painted).each j note found).1

  -- a kept line's note is its painting
  pub kept_stands : (a b : ℕ) (new : List (List ℕ)) (k j : ℕ) (given : Option State) (note : KeptNote) → a ≤ b → b ≤ length text → old_line (record { a = a; b = b; count = length new }) k ≡ Some j → slice_get notes j ≡ Some note → is_untouched (record { a = a; b = b; count = length new }) j k note.looked ≡ true → same_state note.before (state_by given note.before) ≡ true → line_note rules (replaced text a b new) k (state_by given (before_at empty_state notes j)) ≡ Ok note
  kept_stands a b new k j given note ordered inside was found untouched same =
      let all = kept rules text notes painted in
      let s : note.before ≡ state_by given note.before = same_state_is note.before (state_by given note.before) same in
      let o : note.before ≡ before_at empty_state notes j = before_is_old j note found in
      let e : state_by given (before_at empty_state notes j) ≡ note.before = sym (s ∙ ap (state_by given) o) in
      let on : j < length text = omega (arith, slice_get_within notes j note found, all.full) in
      ap (line_note rules (replaced text a b new) k) e ∙ untouched_stands rules local text a b new ordered inside k j note on ((all.each j note found).0) was untouched

  -- a line that the test passes has its old note
  pub kept_by_test : (a b : ℕ) (new : List (List ℕ)) (k j : ℕ) (given : Option State) → a ≤ b → b ≤ length text → old_line (record { a = a; b = b; count = length new }) k ≡ Some j → j < length notes → reusable notes (record { a = a; b = b; count = length new }) k (state_by given (before_at empty_state notes j)) ≡ true → (note : KeptNote) × (slice_get notes j ≡ Some note) × (line_note rules (replaced text a b new) k (state_by given (before_at empty_state notes j)) ≡ Ok note)
  kept_by_test a b new k j given ordered inside was on passes =
      let found = note_there notes j on in
      let note = found.0 in
      let both = and_parts (is_untouched (record { a = a; b = b; count = length new }) j k note.looked) (same_state note.before (state_by given (before_at empty_state notes j)))
      (sym (reusable_is notes (record { a = a; b = b; count = length new }) k j (state_by given (before_at empty_state notes j)) note was found.1) ∙ passes) in
      let o : note.before ≡ before_at empty_state notes j = before_is_old j note found.1 in
      let same : same_state note.before (state_by given note.before) ≡ true = ap (λ (x : State). same_state note.before (state_by given x)) o ∙ both.1 in
      (note, found.1, kept_stands a b new k j given note ordered inside was found.1 both.0 same)

  -- what the test of a line comes to, where it looked at nothing of the change, and where it did
  pub test_untouched : (e : Change) (k j : ℕ) (given : Option State) (note : KeptNote) (own : State) (same : Bool) → old_line e k ≡ Some j → slice_get notes j ≡ Some note → own ≡ note.before → is_untouched e j k note.looked ≡ true → same ≡ same_state own (state_by given own) → same ≡ reusable notes e k (state_by given (before_at empty_state notes j))
  test_untouched e k j given note own same was found is untouched tells =
      let s = state_by given (before_at empty_state notes j) in
      let o : own ≡ before_at empty_state notes j = is ∙ before_is_old j note found in
      tells ∙ ap (λ (x : State). same_state x (state_by given own)) is ∙ ap (λ (x : State). same_state note.before (state_by given x)) o
      ∙ sym (reusable_is notes e k j s note was found ∙ ap (λ (b : Bool). b && same_state note.before s) untouched)

  pub test_touched : (e : Change) (k j : ℕ) (given : Option State) (note : KeptNote) → old_line e k ≡ Some j → slice_get notes j ≡ Some note → is_untouched e j k note.looked ≡ false → false ≡ reusable notes e k (state_by given (before_at empty_state notes j))
  test_touched e k j given note was found touched =
      let s = state_by given (before_at empty_state notes j) in
      sym (reusable_is notes e k j s note was found ∙ ap (λ (b : Bool). b && same_state note.before s) touched)
