-- The note of a line, and its painting.
use Rattle.std.proofs.Common.{arith, ap, sym, ◌∙◌, ◌≡◌, ◌+ℤ◌, ◌-ℤ◌, ℕ, ℤ, pos, suc, List, [], ◌∷◌, length, refl, Some, None, Result, Ok, Err}
use Rattle.std.specs.Prelude.{Option}
use Rattle.std.proofs.lemmas.Int.{ints}
use Rattle.syn_base.specs.Looked.{moved_by, one_line}
use Rattle.syn_base.specs.declared.looked.Looked.{Looked}
use Rattle.match_rules.specs.Ways.{Text}
use Rattle.paint_rules.specs.Line.{Painting, PaintedLine, Refusal, Whole, Fails, painted_after_look, painted_line, painting_from, with_note}
use Rattle.paint_rules.specs.Painted.{Painted, Done, Refused, looked_first}
use Rattle.paint_rules.specs.Rules.{Rules}
use Rattle.paint_rules.specs.States.{State, empty_state, next_line}
use Rattle.paint_shift.specs.Elsewhere.{line_in, looked_of}
use Rattle.paint_reuse.specs.Kept.{KeptNote, KeptNotesAreThePainting, RefusedLine, as_painting, counted_from, kept_of, line_note, note_at, notes_from, text_notes, then_walked, walked, whole_of}

back_ends : (a by : ℤ) → (a +ℤ (pos 0 -ℤ by)) +ℤ by ≡ a
back_ends a by = omega (arith, ints)

there_ends : (a by : ℤ) → (a +ℤ by) +ℤ (pos 0 -ℤ by) ≡ a
there_ends a by = omega (arith, ints)

forth_ends : (x a b c : ℤ) → (a +ℤ b) +ℤ c ≡ pos 0 → ((x +ℤ a) +ℤ b) +ℤ c ≡ x
forth_ends x a b c none = omega (arith, ints, none)

still_ends : (x a : ℤ) → a ≡ pos 0 → x +ℤ a ≡ x
still_ends x a none = omega (arith, ints, none)

pub moved_back : (k : Looked) (by : ℤ) → moved_by (moved_by k (pos 0 -ℤ by)) by ≡ k
moved_back k by = λ i. record k { low = back_ends k.low by i; high = back_ends k.high by i }

pub moved_there : (k : Looked) (by : ℤ) → moved_by (moved_by k by) (pos 0 -ℤ by) ≡ k
moved_there k by = λ i. record k { low = there_ends k.low by i; high = there_ends k.high by i }

pub moved_forth : (k : Looked) (a b c : ℤ) → (a +ℤ b) +ℤ c ≡ pos 0 → moved_by (moved_by (moved_by k a) b) c ≡ k
moved_forth k a b c none = λ i. record k { low = forth_ends k.low a b c none i; high = forth_ends k.high a b c none i }

pub unmoved : (k : Looked) (a : ℤ) → a ≡ pos 0 → moved_by k a ≡ k
unmoved k a none = λ i. record k { low = still_ends k.low a none i; high = still_ends k.high a none i }

-- ---- a painting always looks at its line

some_looked : {E A : Type 0} (k : Looked) (p : Painted E A) → (j : Looked) × (looked_of (looked_first (Some k) p) ≡ Some j)
some_looked k (Done a None) = (_, refl)
some_looked k (Done a (Some l)) = (_, refl)
some_looked k (Refused c None) = (_, refl)
some_looked k (Refused c (Some l)) = (_, refl)

pub looks : (rules : Rules) (t : Text) (l : ℕ) (s : State) → (j : Looked) × (looked_of (painted_line (line_in rules t l) s) ≡ Some j)
looks rules t l s = some_looked (one_line (pos l)) (painted_after_look (line_in rules t l) s)

abbrev shown_of : KeptNote → PaintedLine
shown_of note = record { spans = note.spans; after = note.after }

-- ---- notes of lines

before_of : (l : ℕ) (s : State) (p : Painted Refusal PaintedLine) (note : KeptNote) → kept_of l s p ≡ Ok note → note.before ≡ s
before_of l s (Refused x k) note h = cc
before_of l s (Done p k) note h =
    let n : KeptNote = record { before = s; spans = p.spans; after = p.after; looked = counted_from l k } in
    let e : n ≡ note = cc in
    ap (λ (n : KeptNote). n.before) (sym e)

pub before_is : (rules : Rules) (t : Text) (l : ℕ) (s : State) (note : KeptNote) → line_note rules t l s ≡ Ok note → note.before ≡ s
unfolding line_note
before_is rules t l s note h = before_of l s (painted_line (line_in rules t l) s) note h

painted_of : (l : ℕ) (s : State) (p : Painted Refusal PaintedLine) (note : KeptNote) → ((j : Looked) × (looked_of p ≡ Some j)) → kept_of l s p ≡ Ok note → p ≡ Done (shown_of note) (Some (moved_by note.looked (pos l)))
painted_of l s (Refused x k) note some h = cc
painted_of l s (Done p None) note some h = absurd cc
painted_of l s (Done p (Some k)) note some h =
    let n : KeptNote = record { before = s; spans = p.spans; after = p.after; looked = counted_from l (Some k) } in
    let e : n ≡ note = cc in
    ap (λ (j : Looked). Done p (Some j)) (sym (moved_back k (pos l)))
    ∙ ap (λ (n : KeptNote). Done (shown_of n) (Some (moved_by n.looked (pos l)))) e

-- a line that has a note is painted so
pub note_painted : (rules : Rules) (t : Text) (l : ℕ) (s : State) (note : KeptNote) → line_note rules t l s ≡ Ok note → painted_line (line_in rules t l) s ≡ Done (shown_of note) (Some (moved_by note.looked (pos l)))
unfolding line_note
note_painted rules t l s note h = painted_of l s (painted_line (line_in rules t l) s) note (looks rules t l s) h

-- a line that is painted so has the note
pub painted_noted : (rules : Rules) (t : Text) (l : ℕ) (s : State) (p : PaintedLine) (k : Looked) → painted_line (line_in rules t l) s ≡ Done p (Some k) → line_note rules t l s ≡ Ok (record { before = s; spans = p.spans; after = p.after; looked = moved_by k (pos 0 -ℤ pos l) })
unfolding line_note
painted_noted rules t l s p k h = ap (kept_of l s) h

-- and a refused one has none
pub refused_noted : (rules : Rules) (t : Text) (l : ℕ) (s : State) (x : Refusal) (k : Option Looked) → painted_line (line_in rules t l) s ≡ Refused x k → line_note rules t l s ≡ Err x
unfolding line_note
refused_noted rules t l s x k h = ap (kept_of l s) h

-- ---- the notes of a text

abbrev painting_of : ℕ → Result (List KeptNote) RefusedLine → Painting
painting_of l (Ok notes) = Whole (notes_from l notes)
painting_of l (Err e) = Fails e.line e.refusal

in_front : (l : ℕ) (note : KeptNote) (notes : List KeptNote) (end : Result State RefusedLine) → with_note (note_at l note) (painting_of (suc l) (whole_of notes end)) ≡ painting_of l (whole_of (note ∷ notes) end)
in_front l note notes (Ok s) = refl
in_front l note notes (Err e) = refl

module _ (rules : Rules) (t : Text) where
  abbrev rest : ℕ → List (List ℕ) → State → Painting
  rest l lines s = let all = walked rules t l (length lines) s in painting_of l (whole_of all.notes all.end)

  from_line : (l : ℕ) (lines : List (List ℕ)) (s : State) (p : Painted Refusal PaintedLine) → ((j : Looked) × (looked_of p ≡ Some j)) → ((s : State) → painting_from rules t (suc l) lines s ≡ rest (suc l) lines s) → elim p [ Refused refusal k ↦ Fails l refusal | Done p k ↦ with_note (record { before = s; spans = p.spans; after = p.after; looked = k }) (painting_from rules t (suc l) lines (next_line p.after)) ] ≡ (let all = then_walked l (kept_of l s p) (walked rules t (suc l) (length lines)) in painting_of l (whole_of all.notes all.end))
  from_line l lines s (Refused x k) some h = refl
  from_line l lines s (Done p None) some h = absurd cc
  from_line l lines s (Done p (Some k)) some h =
      let note : KeptNote = record { before = s; spans = p.spans; after = p.after; looked = moved_by k (pos 0 -ℤ pos l) } in
      let behind = walked rules t (suc l) (length lines) (next_line p.after) in
      ap (λ (j : Looked). with_note (record { before = s; spans = p.spans; after = p.after; looked = Some j }) (painting_from rules t (suc l) lines (next_line p.after))) (sym (moved_back k (pos l)))
      ∙ ap (with_note (note_at l note)) (h (next_line p.after))
      ∙ in_front l note behind.notes behind.end

  all_from : (l : ℕ) (lines : List (List ℕ)) (s : State) → painting_from rules t l lines s ≡ rest l lines s
  unfolding line_note
  all_from l [] s = refl
  all_from l (x ∷ lines) s = from_line l lines s (painted_line (line_in rules t l) s) (looks rules t l s) (all_from (suc l) lines)

painted_as : (p : Result (List KeptNote) RefusedLine) → painting_of 0 p ≡ as_painting p
painted_as (Ok notes) = refl
painted_as (Err e) = refl

pub kept_notes : KeptNotesAreThePainting
unfolding text_notes
kept_notes rules t =
    let all = walked rules t 0 (length t) empty_state in
    all_from rules t 0 t empty_state ∙ painted_as (whole_of all.notes all.end)
