-- What a walk over lines leaves.
use Rattle.std.proofs.lemmas.List.{append-nil}
use Rattle.std.proofs.Common.{append_assoc, [], ◌++◌, ◌<◌, ◌-◌, arith, sym, ap, ◌∙◌, ◌≡◌, ◌≤◌, ◌+◌, ℕ, suc, zero, List, ◌∷◌, length, slice_get, Some, Result, Ok, Err, refl}
use Rattle.match_rules.specs.Ways.{Text}
use Rattle.paint_rules.specs.Line.{Refusal}
use Rattle.paint_rules.specs.Rules.{Rules}
use Rattle.paint_rules.specs.States.{State, empty_state, next_line}
use Rattle.paint_reuse.specs.Kept.{KeptNote, RefusedLine, Walked, line_note, text_notes, then_walked, walked, whole_of}
use Rattle.paint_reuse.specs.Work.{WalksOn, before_at, refused_line}
use Rattle.paint_reuse.proofs.NoteLaws.{before_is}

module _ (rules : Rules) (t : Text) where
  -- each note is the painting of its line
  abbrev pub Noted : ℕ → State → List KeptNote → Type 0
  Noted l s notes = (i : ℕ) (note : KeptNote) → slice_get notes i ≡ Some note → (line_note rules t (l + i) note.before ≡ Ok note) × (note.before ≡ before_at s notes i)

  noted_next : (l : ℕ) (s : State) (x : KeptNote) (rest : List KeptNote) → line_note rules t l s ≡ Ok x → Noted (suc l) (next_line x.after) rest → Noted l s (x ∷ rest)
  noted_next l s x rest p h zero note e =
      let q : x ≡ note = cc in
      let b : note.before ≡ s = ap (λ (n : KeptNote). n.before) (sym q) ∙ before_is rules t l s x p in
      let l0 : l + 0 ≡ l = omega arith in
      (ap (λ (k : ℕ). line_note rules t k note.before) l0 ∙ ap (line_note rules t l) b ∙ p ∙ ap (λ (n : KeptNote). Ok n) q, b)
  noted_next l s x rest p h (suc i) note e =
      let l1 : l + suc i ≡ suc l + i = omega arith in
      let r = h i note e in
      (ap (λ (k : ℕ). line_note rules t k note.before) l1 ∙ r.0, r.1)

  noted_step : (l n : ℕ) (s : State) (r : Result KeptNote Refusal) → line_note rules t l s ≡ r → ((s' : State) → Noted (suc l) s' (walked rules t (suc l) n s').notes) → Noted l s (then_walked l r (walked rules t (suc l) n)).notes
  noted_step l n s (Err x) p h = λ i note e. cc
  noted_step l n s (Ok x) p h = noted_next l s x _ p (h (next_line x.after))

  pub noted : (l n : ℕ) (s : State) → Noted l s (walked rules t l n s).notes
  noted l zero s = λ i note e. cc
  noted l (suc n) s = noted_step l n s (line_note rules t l s) refl (noted (suc l) n)

  length_step : (l n : ℕ) (r : Result KeptNote Refusal) → ((s : State) → length (walked rules t (suc l) n s).notes ≤ n) → length (then_walked l r (walked rules t (suc l) n)).notes ≤ suc n
  length_step l n (Err x) h = omega arith
  length_step l n (Ok x) h = omega (arith, h (next_line x.after))

  pub walked_length : (l n : ℕ) (s : State) → length (walked rules t l n s).notes ≤ n
  walked_length l zero s = omega arith
  walked_length l (suc n) s = length_step l n (line_note rules t l s) (walked_length (suc l) n)

  -- a whole painting has a note for each line
  full_step : (l n : ℕ) (r : Result KeptNote Refusal) (e : State) → ((s : State) → (walked rules t (suc l) n s).end ≡ Ok e → length (walked rules t (suc l) n s).notes ≡ n) → (then_walked l r (walked rules t (suc l) n)).end ≡ Ok e → length (then_walked l r (walked rules t (suc l) n)).notes ≡ suc n
  full_step l n (Err x) e h q = cc
  full_step l n (Ok x) e h q = ap suc (h (next_line x.after) q)

  pub walked_full : (l n : ℕ) (s e : State) → (walked rules t l n s).end ≡ Ok e → length (walked rules t l n s).notes ≡ n
  walked_full l zero s e q = refl
  walked_full l (suc n) s e q = full_step l n (line_note rules t l s) e (λ s'. walked_full (suc l) n s' e) q

  -- the state at the end is the one before the line that follows
  end_step : (l n : ℕ) (s : State) (r : Result KeptNote Refusal) (e : State) → ((s' : State) → (walked rules t (suc l) n s').end ≡ Ok e → before_at s' (walked rules t (suc l) n s').notes n ≡ e) → (then_walked l r (walked rules t (suc l) n)).end ≡ Ok e → before_at s (then_walked l r (walked rules t (suc l) n)).notes (suc n) ≡ e
  end_step l n s (Err x) e h q = cc
  end_step l n s (Ok x) e h q = h (next_line x.after) q

  pub walked_end : (l n : ℕ) (s e : State) → (walked rules t l n s).end ≡ Ok e → before_at s (walked rules t l n s).notes n ≡ e
  walked_end l zero s e q = cc
  walked_end l (suc n) s e q = end_step l n s (line_note rules t l s) e (λ s'. walked_end (suc l) n s' e) q

-- a painting is its walk
walk_of : (w : Walked) (notes : List KeptNote) → whole_of w.notes w.end ≡ Ok notes → (w.notes ≡ notes) × ((e : State) × (w.end ≡ Ok e))
walk_of w notes h = walk_by w.notes w.end notes h
  where
    walk_by : (xs : List KeptNote) (end : Result State RefusedLine) (notes : List KeptNote) → whole_of xs end ≡ Ok notes → (xs ≡ notes) × ((e : State) × (end ≡ Ok e))
    walk_by xs (Ok e) notes h = (cc, (e, refl))
    walk_by xs (Err x) notes h = cc

-- what a kept painting says of its notes
pub record Kept (rules : Rules) (t : Text) (notes : List KeptNote) : Type 0 where
  pub full : length notes ≡ length t
  pub each : (i : ℕ) (note : KeptNote) → slice_get notes i ≡ Some note → (line_note rules t i note.before ≡ Ok note) × (note.before ≡ before_at empty_state notes i)

pub kept : (rules : Rules) (t : Text) (notes : List KeptNote) → text_notes rules t ≡ Ok notes → Kept rules t notes
unfolding text_notes
kept rules t notes h =
    let w = walk_of (walked rules t 0 (length t) empty_state) notes h in
    record {
      full = ap length (sym w.0) ∙ walked_full rules t 0 (length t) empty_state w.1.0 w.1.1;
      each = λ i note e.
          let q : slice_get (walked rules t 0 (length t) empty_state).notes i ≡ Some note = ap (λ (xs : List KeptNote). slice_get xs i) (w.0) ∙ e in
          let r = noted rules t 0 (length t) empty_state i note q in
          let z : 0 + i ≡ i = omega arith in
          (ap (λ (k : ℕ). line_note rules t k note.before) (sym z) ∙ r.0, r.1 ∙ ap (λ (xs : List KeptNote). before_at empty_state xs i) (w.0));
    }

-- ---- a text painted line by line

walked_at : (rules : Rules) (t : Text) (l n : ℕ) (s : State) (note : KeptNote) → line_note rules t l s ≡ Ok note → walked rules t l (suc n) s ≡ then_walked l (Ok note) (walked rules t (suc l) n)
walked_at rules t l n s note h = ap (λ (p : Result KeptNote Refusal). then_walked l p (walked rules t (suc l) n)) h

pub walk_begun : (rules : Rules) (t : Text) (l : ℕ) (s : State) → l ≡ 0 → s ≡ empty_state → WalksOn rules t l [] s
walk_begun rules t l s at is =
    let n : length t - l ≡ length t = omega (arith, at) in
    rw (at, is) (record { notes = ap (λ (m : ℕ). (walked rules t 0 m empty_state).notes) z; end = ap (λ (m : ℕ). (walked rules t 0 m empty_state).end) z })
  where
    z : length t ≡ length t - 0
    z = omega arith

pub walk_further : (rules : Rules) (t : Text) (l next : ℕ) (s s' : State) (note : KeptNote) (made more : List KeptNote) → l < length t → next ≡ suc l → line_note rules t l s ≡ Ok note → WalksOn rules t l made s → more ≡ made ++ note ∷ [] → s' ≡ next_line note.after → WalksOn rules t next more s'
walk_further rules t l next s s' note made more on at noted w grown after =
    let n : length t - l ≡ suc (length t - suc l) = omega arith in
    let u : walked rules t l (length t - l) s ≡ then_walked l (Ok note) (walked rules t (suc l) (length t - suc l)) = ap (λ (m : ℕ). walked rules t l m s) n ∙ walked_at rules t l (length t - suc l) s note noted in
    let rest = walked rules t (suc l) (length t - suc l) (next_line note.after) in
    rw (at, grown, after) (record {
      notes = w.notes ∙ ap (λ (x : Walked). made ++ x.notes) u ∙ sym (append_assoc made (note ∷ []) rest.notes);
      end = w.end ∙ ap (λ (x : Walked). x.end) u;
    })

whole_by : (all : Walked) (made : List KeptNote) (s : State) → all.notes ≡ made → all.end ≡ Ok s → whole_of all.notes all.end ≡ Ok made
whole_by all made s notes end = ap (whole_of all.notes) end ∙ ap (λ (l : List KeptNote). Ok l) notes

pub walk_whole : (rules : Rules) (t : Text) (l : ℕ) (made : List KeptNote) (s : State) → l ≡ length t → WalksOn rules t l made s → text_notes rules t ≡ Ok made
unfolding text_notes
walk_whole rules t l made s at w =
    let none : length t - l ≡ 0 = omega arith in
    whole_by (walked rules t 0 (length t) empty_state) made s
    (w.notes ∙ ap (λ (m : ℕ). made ++ (walked rules t l m s).notes) none ∙ append-nil made)
    (w.end ∙ ap (λ (m : ℕ). (walked rules t l m s).end) none)

pub walk_refused : (rules : Rules) (t : Text) (l : ℕ) (made : List KeptNote) (s : State) (x : Refusal) → l < length t → WalksOn rules t l made s → line_note rules t l s ≡ Err x → text_notes rules t ≡ Err (refused_line l x)
unfolding text_notes
walk_refused rules t l made s x on w refused =
    let n : length t - l ≡ suc (length t - suc l) = omega arith in
    ap (whole_of (walked rules t 0 (length t) empty_state).notes)
    (w.end ∙ ap (λ (m : ℕ). (walked rules t l m s).end) n ∙ ap (λ (p : Result KeptNote Refusal). (then_walked l p (walked rules t (suc l) (length t - suc l))).end) refused)
