-- The painting of a text is that of its lines, one after the other.
use Rattle.std.proofs.Common.{◌≡◌, ◌<◌, ◌≤◌, ◌+◌, ◌-◌, ℕ, zero, suc, List, [], ◌∷◌, ◌++◌, length}
use Rattle.std.proofs.Common.{take, refl, sym, ap, ◌∙◌, subst, arith, length-append}
use Rattle.std.specs.Prelude.{Option, Some, slice_get}
use Rattle.std.proofs.lemmas.List.{length-take-le}
use Rattle.syn_base.specs.declared.looked.Looked.{Looked}
use Rattle.match_rules.specs.Ways.{Text}
use Rattle.paint_rules.specs.Painted.{Painted, Done, Refused}
use Rattle.paint_rules.specs.Rules.{Rules}
use Rattle.paint_rules.specs.States.{State, empty_state, next_line}
use Rattle.paint_rules.specs.Line.{Note, Painting, Whole, Fails, Refusal, PaintedLine, with_note}
use Rattle.paint_rules.specs.Line.{painted_line, painting, painting_from}
use Rattle.paint_laws.specs.Outcomes.{Refuses}
use Rattle.paint_laws.specs.LineByLine.{line_of, state_behind, state_before, IsNoteOf, AreNotesOf}
use Rattle.paint_laws.specs.LineByLine.{IsWhole, FailsAt, WholePaintings, RefusedPaintings}
use Rattle.paint_laws.specs.Refusals.{ChangesNothing, RefusalsChangeNothing}

module _ (r : Rules) (t : Text) where
  -- notes of lines from a line on, from a state
  abbrev Follow : ℕ → State → List Note → Type 0
  Follow l s [] = Unit {0}
  Follow l s (note ∷ notes) = IsNoteOf r t l s note × Follow (suc l) (next_line note.after) notes

  -- the state behind some notes
  abbrev state_after : State → List Note → State
  state_after s [] = s
  state_after s (note ∷ notes) = state_after (next_line note.after) notes

  -- what follows the painting of a line
  abbrev goes_on : ℕ → List (List ℕ) → State → Painted Refusal PaintedLine → Painting
  goes_on l lines s p = elim p [
    | Refused refusal k ↦ Fails l refusal
    | Done p k ↦ with_note (record { before = s; spans = p.spans; after = p.after; looked = k })
        (painting_from r t (suc l) lines (next_line p.after))
  ]

  record Wholly (l : ℕ) (lines : List (List ℕ)) (s : State) (notes : List Note) : Type 0 where
    follow : Follow l s notes
    count : length notes ≡ length lines

  record Failing (l : ℕ) (lines : List (List ℕ)) (s : State) (k : ℕ)
      (refusal : Refusal) : Type 0 where
    notes : List Note
    follow : Follow l s notes
    count : l + length notes ≡ k
    within : length notes < length lines
    refused : Refuses (painted_line (line_of r t k) (state_after s notes)) refusal

  whole_from : (l : ℕ) (lines : List (List ℕ)) (s : State) (notes : List Note) →
      painting_from r t l lines s ≡ Whole notes → Wholly l lines s notes
  whole_from l [] s notes e = let none : [] ≡ notes = cc in
      subst (Wholly l [] s) none (record { follow = tt; count = refl })
  whole_from l (x ∷ lines) s notes e =
      by_line (λ s notes. whole_from (suc l) lines s notes) (painted_line (line_of r t l) s) refl e
    where
      by_rest : ((s : State) (notes : List Note) →
          painting_from r t (suc l) lines s ≡ Whole notes → Wholly (suc l) lines s notes) →
          (p : PaintedLine) (looked : Option Looked) →
          painted_line (line_of r t l) s ≡ Done p looked → (rest : Painting) →
          painting_from r t (suc l) lines (next_line p.after) ≡ rest →
          with_note (record { before = s; spans = p.spans; after = p.after; looked = looked }) rest
          ≡ Whole notes → Wholly l (x ∷ lines) s notes
      by_rest go p looked is (Whole more) f e =
          let note : Note =
          record { before = s; spans = p.spans; after = p.after; looked = looked } in
          let whole = go (next_line p.after) more f in
          let all : note ∷ more ≡ notes = cc in
          subst (Wholly l (x ∷ lines) s) all
          (record {
            follow = (record { begins = refl; painted = is }, whole.follow);
            count =
                ap suc whole.count;
          })
      by_rest go p looked is (Fails k refusal) f e = absurd (cc)

      by_line : ((s : State) (notes : List Note) →
          painting_from r t (suc l) lines s ≡ Whole notes → Wholly (suc l) lines s notes) →
          (p : Painted Refusal PaintedLine) → painted_line (line_of r t l) s ≡ p →
          goes_on l lines s p ≡ Whole notes → Wholly l (x ∷ lines) s notes
      by_line go (Refused refusal k) is e = absurd (cc)
      by_line go (Done p k) is e =
          by_rest go p k is (painting_from r t (suc l) lines (next_line p.after)) refl e

  whole_to : (l : ℕ) (lines : List (List ℕ)) (s : State) (notes : List Note) →
      Wholly l lines s notes → painting_from r t l lines s ≡ Whole notes
  whole_to l [] s [] w = refl
  whole_to l [] s (note ∷ notes) w = absurd (omega (arith, w.count))
  whole_to l (x ∷ lines) s [] w = absurd (omega (arith, w.count))
  whole_to l (x ∷ lines) s (note ∷ notes) w =
      let is = w.follow.0 in
      ap (goes_on l lines s) is.painted
      ∙ (ap (with_note
      (record { before = s; spans = note.spans; after = note.after; looked = note.looked }))
      (whole_to (suc l) lines (next_line note.after) notes
      (record { follow = w.follow.1; count = omega (arith, w.count) }))
      ∙ ap (λ (s : State). Whole
      (record {
        before = s;
        spans = note.spans;
        after = note.after;
        looked =
            note.looked;
      } ∷ notes)) (sym is.begins))

  fails_from : (l : ℕ) (lines : List (List ℕ)) (s : State) (k : ℕ) (refusal : Refusal) →
      painting_from r t l lines s ≡ Fails k refusal → Failing l lines s k refusal
  fails_from l [] s k refusal e = absurd (cc)
  fails_from l (x ∷ lines) s k refusal e =
      by_line (λ s. fails_from (suc l) lines s k refusal) (painted_line (line_of r t l) s) refl e
    where
      by_rest : ((s : State) → painting_from r t (suc l) lines s ≡ Fails k refusal →
          Failing (suc l) lines s k refusal) → (p : PaintedLine) (looked : Option Looked) →
          painted_line (line_of r t l) s ≡ Done p looked → (rest : Painting) →
          painting_from r t (suc l) lines (next_line p.after) ≡ rest →
          with_note (record { before = s; spans = p.spans; after = p.after; looked = looked }) rest
          ≡ Fails k refusal → Failing l (x ∷ lines) s k refusal
      by_rest go p looked is (Whole more) f e = absurd (cc)
      by_rest go p looked is (Fails j cause) f e =
          let same : Fails j cause ≡ Fails k refusal = e in
          let later = go (next_line p.after) (f ∙ same) in
          record {
            notes = record
                { before = s; spans = p.spans; after = p.after; looked = looked } ∷ later.notes;
            follow = (record { begins = refl; painted = is }, later.follow);
            count = omega (arith, later.count);
            within = omega (arith, later.within);
            refused = later.refused;
          }

      by_line : ((s : State) → painting_from r t (suc l) lines s ≡ Fails k refusal →
          Failing (suc l) lines s k refusal) → (p : Painted Refusal PaintedLine) →
          painted_line (line_of r t l) s ≡ p → goes_on l lines s p ≡ Fails k refusal →
          Failing l (x ∷ lines) s k refusal
      by_line go (Refused cause looked) is e =
          let here : l ≡ k = cc in
          let same : cause ≡ refusal = cc in
          record {
            notes = [];
            follow = tt;
            count = omega (arith, here);
            within = omega arith;
            refused = subst (λ k. Refuses (painted_line (line_of r t k) s) refusal) here
                (record { looked = looked; is = is ∙ ap (λ c. Refused c looked) same });
          }
      by_line go (Done p looked) is e =
          by_rest go p looked is (painting_from r t (suc l) lines (next_line p.after)) refl e

  fails_by : (l : ℕ) (lines : List (List ℕ)) (s : State) (k : ℕ) (refusal : Refusal)
      (notes : List Note) → Follow l s notes → l + length notes ≡ k →
      length notes < length lines →
      Refuses (painted_line (line_of r t k) (state_after s notes)) refusal →
      painting_from r t l lines s ≡ Fails k refusal
  fails_by l [] s k refusal notes follow count within refused = absurd (omega (arith, within))
  fails_by l (x ∷ lines) s k refusal [] follow count within refused =
      let here : k ≡ l = omega (arith, count) in
      let now : Refuses (painted_line (line_of r t l) s) refusal =
      subst (λ k. Refuses (painted_line (line_of r t k) s) refusal) here refused in
      ap (goes_on l lines s) now.is ∙ ap (λ l. Fails l refusal) (sym here)
  fails_by l (x ∷ lines) s k refusal (note ∷ notes) follow count within refused =
      ap (goes_on l lines s) (follow.0).painted
      ∙ ap (with_note
      (record { before = s; spans = note.spans; after = note.after; looked = note.looked }))
      (fails_by (suc l) lines (next_line note.after) k refusal notes follow.1
      (omega (arith, count)) (omega (arith, within)) refused)

  -- the same by the lines' numbers
  abbrev state_from : State → List Note → ℕ → State
  state_from s notes zero = s
  state_from s notes (suc i) = state_behind (slice_get notes i)

  abbrev Each : ℕ → State → List Note → Type 0
  Each l s notes = (i : ℕ) (note : Note) → Some note ≡ slice_get notes i →
      IsNoteOf r t (l + i) (state_from s notes i) note

  state_shift : (s : State) (note : Note) (notes : List Note) (i : ℕ) →
      state_from (next_line note.after) notes i ≡ state_from s (note ∷ notes) (suc i)
  state_shift s note notes zero = refl
  state_shift s note notes (suc i) = refl

  each_of : (l : ℕ) (s : State) (notes : List Note) → Follow l s notes → Each l s notes
  each_of l s [] follow i note e = absurd (cc)
  each_of l s (first ∷ notes) follow zero note e =
      let same : first ≡ note = cc in
      let here : l ≡ l + zero = omega arith in
      subst (λ l. IsNoteOf r t l s note) here (subst (IsNoteOf r t l s) same follow.0)
  each_of l s (first ∷ notes) follow (suc i) note e =
      let there : suc l + i ≡ l + suc i = omega arith in
      subst (λ l. IsNoteOf r t l (state_from s (first ∷ notes) (suc i)) note) there
      (subst (λ s. IsNoteOf r t (suc l + i) s note) (state_shift s first notes i)
      (each_of (suc l) (next_line first.after) notes follow.1 i note e))

  follow_of : (l : ℕ) (s : State) (notes : List Note) → Each l s notes → Follow l s notes
  follow_of l s [] each = tt
  follow_of l s (first ∷ notes) each =
      let here : l + zero ≡ l = omega arith in (
        subst (λ l. IsNoteOf r t l s first) here (each zero first refl),
        follow_of (suc l) (next_line first.after) notes later,
      )
    where
      later : Each (suc l) (next_line first.after) notes
      later i note e =
          let there : l + suc i ≡ suc l + i = omega arith in
          subst (λ l. IsNoteOf r t l (state_from (next_line first.after) notes i) note) there
          (subst (λ s. IsNoteOf r t (l + suc i) s note) (sym (state_shift s first notes i))
          (each (suc i) note e))

  last_state : (s : State) (notes : List Note) →
      state_after s notes ≡ state_from s notes (length notes)
  last_state s [] = refl
  last_state s (note ∷ notes) =
      last_state (next_line note.after) notes ∙ state_shift s note notes (length notes)

  before_is : (notes : List Note) (i : ℕ) → state_from empty_state notes i ≡ state_before notes i
  before_is notes zero = refl
  before_is notes (suc i) = refl

  notes_of : (notes : List Note) → Follow 0 empty_state notes → AreNotesOf r t notes
  notes_of notes follow i note e =
      let here : 0 + i ≡ i = omega arith in
      subst (λ s. IsNoteOf r t i s note) (before_is notes i)
      (subst (λ l. IsNoteOf r t l (state_from empty_state notes i) note) here
      (each_of 0 empty_state notes follow i note e))

  follow_notes : (notes : List Note) → AreNotesOf r t notes → Follow 0 empty_state notes
  follow_notes notes each = follow_of 0 empty_state notes by_number
    where
      by_number : Each 0 empty_state notes
      by_number i note e =
          let here : i ≡ 0 + i = omega arith in
          subst (λ l. IsNoteOf r t l (state_from empty_state notes i) note) here
          (subst (λ s. IsNoteOf r t i s note) (sym (before_is notes i)) (each i note e))

  pub whole_is : (notes : List Note) → painting r t ≡ Whole notes → IsWhole r t notes
  whole_is notes e =
      let w = whole_from 0 t empty_state notes e in
      record { count = w.count; each = notes_of notes w.follow }

  pub is_whole : (notes : List Note) → IsWhole r t notes → painting r t ≡ Whole notes
  is_whole notes w =
      whole_to 0 t empty_state notes
      (record { follow = follow_notes notes w.each; count = w.count })

  pub fails_at : (l : ℕ) (refusal : Refusal) → painting r t ≡ Fails l refusal →
      FailsAt r t l refusal
  fails_at l refusal e =
      let f = fails_from 0 t empty_state l refusal e in
      let count : length f.notes ≡ l = omega (arith, f.count) in
      record {
        notes = f.notes;
        count = count;
        each = notes_of f.notes f.follow;
        within = omega (arith, f.within, count);
        refused = subst (λ s. Refuses (painted_line (line_of r t l) s) refusal)
            (last_state empty_state f.notes
            ∙ (before_is f.notes (length f.notes) ∙ ap (state_before f.notes) count)) f.refused;
      }

  pub at_fails : (l : ℕ) (refusal : Refusal) → FailsAt r t l refusal →
      painting r t ≡ Fails l refusal
  at_fails l refusal f =
      fails_by 0 t empty_state l refusal f.notes (follow_notes f.notes f.each)
      (omega (arith, f.count)) (omega (arith, f.count, f.within))
      (subst (λ s. Refuses (painted_line (line_of r t l) s) refusal)
      (sym (last_state empty_state f.notes
      ∙ (before_is f.notes (length f.notes) ∙ ap (state_before f.notes) f.count))) f.refused)

  pub changes_nothing : (l : ℕ) (lines : List (List ℕ)) (s : State) (k : ℕ) (refusal : Refusal) →
      painting_from r t l lines s ≡ Fails k refusal → ChangesNothing r t l lines s k refusal
  changes_nothing l lines s k refusal e =
      let f = fails_from l lines s k refusal e in
      let some : k - l ≡ length f.notes = omega (arith, f.count) in
      let few : length f.notes ≤ length lines = omega (arith, f.within) in
      record {
        notes = f.notes;
        before = ap (λ n. painting_from r t l (take n lines) s) some
            ∙ whole_to l (take (length f.notes) lines) s f.notes
            (record {
              follow = f.follow;
              count =
                  sym (length-take-le (length f.notes) lines few);
            });
        behind = λ more. fails_by l (lines ++ more) s k refusal f.notes f.follow f.count
            (omega (arith, f.within, length-append lines more)) f.refused;
      }

pub whole_paintings : WholePaintings
whole_paintings r t notes = (whole_is r t notes, is_whole r t notes)

pub refused_paintings : RefusedPaintings
refused_paintings r t l refusal = (fails_at r t l refusal, at_fails r t l refusal)

pub refusals_change_nothing : RefusalsChangeNothing
refusals_change_nothing r t l lines s k refusal e = changes_nothing r t l lines s k refusal e
