-- One step of closing, and what is left of it.
use Rattle.line_paint.proofs.Common.{◌≡◌, List, [], ◌∷◌, refl, Frame, closing_on, ℕ, suc, ◌-◌, ◌<◌, ap, ◌∙◌, arith, Option, Some, None, Looked, Painted, Done, looked_first, done, ◌>>=◌, Here, Cause, close_once, closed_in, Stop, Stops, goes_on}
use Rattle.paint_rules.specs.States.{Standing}
use Rattle.paint_rules.specs.Close.{Stays, close_top}
use Rattle.line_paint.proofs.ComesLaws.{stops_whole}

-- a top frame that stays is the end of closing
pub stays_on : (h : Here) (c : ℕ) (s : Standing) (frames : List Frame) →
    closing_on h c s.is_over frames ≡ Stays → close_once h c s frames ≡ done None
stays_on h c s [] e = refl
stays_on h c s (f ∷ fs) e = ap (close_top h c s f fs) e

module _ (h : Here) (c left : ℕ) (j k : Looked) (p : Painted Cause Standing) (s : Standing)
    (some : 0 < left)
    (whole : looked_first (Some j) p ≡ looked_first (Some k) (closed_in left h c s)) where
  abbrev onward : Option Standing → Painted Cause Standing
  onward = λ next. elim next as (λ _. Painted Cause Standing) [
    | None ↦ done s
    | Some more ↦ closed_in (left - 1) h c more
  ]

  unrolled : looked_first (Some j) p ≡ looked_first (Some k) (close_once h c s s.stack >>= onward)
  unrolled =
      let e : left ≡ suc (left - 1) = omega (arith, some) in
      whole ∙ ap (λ n. looked_first (Some k) (closed_in n h c s)) e

  pub step_on : (l : Looked) (t : Standing) → looked_first (Some k)
      (close_once h c s s.stack) ≡ Done (Some t) (Some l) →
      looked_first (Some j) p ≡ looked_first (Some l) (closed_in (left - 1) h c t)
  step_on l t e = unrolled ∙ goes_on k l (close_once h c s s.stack) (Some t) onward e

  pub step_stays : (l : Looked) (t : Standing) → looked_first (Some k)
      (close_once h c s s.stack) ≡ Done None (Some l) → s ≡ t →
      looked_first (Some j) p ≡ Done t (Some l)
  step_stays l t e same =
      unrolled ∙ (goes_on k l (close_once h c s s.stack) None onward e
      ∙ ap (λ (t : Standing). Done t (Some l)) same)

  pub step_stops : (e : Stop) → Stops e (close_once h c s s.stack) → Stops e p
  step_stops e = stops_whole e j k p (close_once h c s s.stack) onward unrolled
