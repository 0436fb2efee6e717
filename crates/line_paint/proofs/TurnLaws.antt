-- Turns at a column: close, and then start what a pick finds.
use Rattle.line_paint.proofs.Common.{◌≡◌, ◌<◌, ◌≤◌, ℕ, suc, ◌-◌, [], length, refl, sym, ap, ◌∙◌, subst, arith, Some, None, pos, Looked, one_line, Painted, Done, Refused, looked_first, done, ◌>>=◌, Here, Cause, this_line, closed, Nothing, picked, turns, Stop, Stops, IsAt, Stands, More, Last, next_start, turn, bind_assoc, goes_on, hull_of, Next, after_pick, first_none}
use Rattle.syn_base.proofs.HullLaws.{hull_assoc, hull_comm}
use Rattle.paint_rules.specs.States.{Standing}
use Rattle.paint_rules.specs.Pick.{Starting, Picked, Start, SkipOn, started}
use Rattle.line_paint.specs.declared.standing.Standing.{Standing as StandingCode}
use Rattle.item_pick.specs.Screens.{HoldsLine}
use Rattle.line_paint.proofs.ComesLaws.{stops_whole}

held_more : (one j m : Looked) → hull_of j one ≡ j → hull_of (hull_of j m) one ≡ hull_of j m
held_more one j m h =
    hull_assoc j m one ∙ (ap (hull_of j) (hull_comm m one)
    ∙ (sym (hull_assoc j one m) ∙ ap (λ k. hull_of k m) h))

-- what has looked at a line goes on having looked at it
held_after : {E A : Type 0} (l : ℕ) (j k : Looked) (p : Painted E A) (a : A) → HoldsLine j l →
    looked_first (Some j) p ≡ Done a (Some k) → HoldsLine k l
held_after l j k (Done b None) a h e = let same : j ≡ k = cc in
    subst (λ (k : Looked). HoldsLine k l) same h
held_after l j k (Done b (Some m)) a h e = let same : hull_of j m ≡ k = cc in
    subst (λ (k : Looked). HoldsLine k l) same (held_more (one_line (pos l)) j m h)
held_after l j k (Refused b m) a h e = absurd (cc)

module _ {E A : Type 0} (h : Here) (c : ℕ) (s t : StandingCode) (p : Painted E A) (a : A)
    (at : IsAt h c s) (stands : Stands h c t)
    (leads : looked_first (Some s.looked) p ≡ Done a (Some t.looked)) where
  -- what a call leads to is at its column
  pub at_after : IsAt h c t
  at_after = (stands, at.1, held_after h.line s.looked t.looked p a at.2 leads)

  -- and at each later one of the line, where nothing was tried
  pub at_later : (d : ℕ) (u : StandingCode) → c ≤ d → d ≤ length (this_line h) →
      u ≡ record t { tried = [] } → IsAt h d u
  at_later d u later within cleared =
      subst (λ (x : StandingCode). IsAt h d x) (sym cleared)
      ((stands.0, stands.1, omega (arith, stands.2, later)), within, at_after.2)

module _ (h : Here) (c : ℕ) (j k : Looked) (s : Standing) where
  pub next_starts : (l : Looked) (t : Starting) (to : Standing) →
      looked_first (Some j) (picked h c s) ≡ Done (Start t) (Some k) →
      looked_first (Some k) (started h c s t) ≡ Done to (Some l) →
      looked_first (Some j) (next_start h c s) ≡ Done (More to) (Some l)
  next_starts l t to e d =
      goes_on j k (picked h c s) (Start t) (after_pick h c s) e
      ∙ goes_on k l (started h c s t) to (λ s. done (More s)) d

  pub next_nothing : looked_first (Some j) (picked h c s) ≡ Done Nothing (Some k) →
      looked_first (Some j) (next_start h c s) ≡ Done (Last (record s { waiting = None })) (Some k)
  next_nothing e = goes_on j k (picked h c s) Nothing (after_pick h c s) e

module _ (h : Here) (c : ℕ) where
  -- what follows a turn, where so many are left
  abbrev pub go_on : ℕ → Next → Painted Cause Standing
  go_on n (More s) = turns n h c s
  go_on n (Last s) = done s

  after_same : (n : ℕ) (s : Standing) (p : Picked) →
      elim p as (λ _. Painted Cause Standing) [
        | Start t ↦ started h c s t
            >>= (λ s. turns n h c s)
        | SkipOn ↦ done s
        | Nothing ↦ done
            (record s { waiting = None })
      ] ≡ after_pick h c s p >>= go_on n
  after_same n s (Start t) = sym (bind_assoc (started h c s t) (λ s. done (More s)) (go_on n)
      ∙ ap (λ f. started h c s t >>= f) (λ i x. first_none (turns n h c x) i))
  after_same n s SkipOn = refl
  after_same n s Nothing = refl

  pub one_turn : (n : ℕ) (s : Standing) → turns (suc n) h c s ≡ turn h c s >>= go_on n
  one_turn n s =
      ap (λ f. closed h c s >>= f)
      (λ i x. (ap (λ f. picked h c x >>= f) (λ k p. after_same n x p k)
      ∙ sym (bind_assoc (picked h c x) (after_pick h c x) (go_on n))) i)
      ∙ sym (bind_assoc (closed h c s) (next_start h c) (go_on n))

module _ (h : Here) (c left : ℕ) (j k : Looked) (p : Painted Cause Standing) (s : Standing)
    (some : 0 < left)
    (whole : looked_first (Some j) p ≡ looked_first (Some k) (turns left h c s)) where
  unrolled : looked_first (Some j) p
      ≡ looked_first (Some k) (turn h c s >>= go_on h c (left - 1))
  unrolled =
      let e : left ≡ suc (left - 1) = omega (arith, some) in
      whole ∙ ap (looked_first (Some k)) (ap (λ n. turns n h c s) e ∙ one_turn h c (left - 1) s)

  pub turn_on : (l : Looked) (t : Standing) → looked_first (Some k) (turn h c s) ≡ Done (More t)
      (Some l) → looked_first (Some j) p ≡ looked_first (Some l) (turns (left - 1) h c t)
  turn_on l t e = unrolled ∙ goes_on k l (turn h c s) (More t) (go_on h c (left - 1)) e

  pub turn_ends : (l : Looked) (t : Standing) → looked_first (Some k) (turn h c s) ≡ Done (Last t)
      (Some l) → looked_first (Some j) p ≡ Done t (Some l)
  turn_ends l t e = unrolled ∙ goes_on k l (turn h c s) (Last t) (go_on h c (left - 1)) e

  pub turn_stops : (e : Stop) → Stops e (turn h c s) → Stops e p
  turn_stops e = stops_whole e j k p (turn h c s) (go_on h c (left - 1)) unrolled
