-- Closing comes to its end: each step makes the stack lighter, and the number of steps suffices.
use Rattle.std.proofs.Common.{◌≡◌, ◌<◌, ◌≤◌, ◌+◌, ℕ, zero, suc, arith, Bool, true, false, List, []}
use Rattle.std.proofs.Common.{◌∷◌, length, refl, ap, ◌∙◌}
use Rattle.std.specs.Prelude.{Option, Some, None, ◌&&◌, ◌||◌, is_none}
use Rattle.paint_rules.specs.Frames.{Frame}
use Rattle.paint_rules.specs.declared.RegionEnd.{RegionEnd}
use Rattle.paint_rules.specs.declared.Part.{Part}
use Rattle.paint_rules.specs.declared.Part.TheVariants.{Body, StartArea, EndArea, Keyword}
use Rattle.paint_rules.specs.declared.Spot.{Spot}
use Rattle.paint_rules.specs.declared.Spot.TheVariants.{At}
use Rattle.paint_rules.specs.Painted.{Painted, Done, Refused, done, ◌>>=◌}
use Rattle.paint_rules.specs.Rules.{Here, item_of, Cause, place_at}
use Rattle.paint_rules.specs.EndInLine.{search_from, end_in_line}
use Rattle.paint_rules.specs.KeptEnd.{has_extend, has_keepend, kept_end_over, is_start_area}
use Rattle.paint_rules.specs.States.{Standing}
use Rattle.paint_rules.specs.Close.{is_body, is_region, is_region_body, is_reached, goes_beyond}
use Rattle.paint_rules.specs.Close.{with_end, searched, search_col, searched_if, searched_anew}
use Rattle.paint_rules.specs.Close.{col_here, body_after_area, Anew, untouched, anew_over_keepend}
use Rattle.paint_rules.specs.Close.{exposed_anew, frames_after, Closing, Stays, BecomesArea, Leaves}
use Rattle.paint_rules.specs.Close.{LeavesArea, closing_of, close_top, close_once, closed_in}
use Rattle.paint_rules.specs.Close.{closed}
use Rattle.paint_laws.specs.Outcomes.{Gives}
use Rattle.paint_laws.specs.Closings.{ClosingEnds}
use Rattle.paint_laws.proofs.OutcomeLaws.{Tells, told, then_tells, after_tells, done_tells}
use Rattle.paint_laws.proofs.OutcomeLaws.{weaker_tells, tested_tells}

-- a body weighs two, since it may become an end area before it is popped
abbrev part_weight : Part → ℕ
part_weight Body = 2
part_weight _ = 1

abbrev weight : List Frame → ℕ
weight [] = 0
weight (f ∷ below) = part_weight f.part + weight below

abbrev SamePart : Frame → Frame → Type 0
SamePart f g = g.part ≡ f.part

module _ (h : Here) where
  end_part : (f : Frame) (o : Option RegionEnd) → SamePart f (with_end h f o)
  end_part f None = refl
  end_part f (Some e) = refl

  searched_part : (f : Frame) (c : ℕ) → Tells (SamePart f) (searched h f c)
  searched_part f c =
      then_tells (SamePart f) (end_in_line (search_from h f.item f.externals (place_at h.line c))) _
      (λ o g. done_tells (SamePart f) (with_end h f o) (end_part f o))

  searched_if_part : (f : Frame) (o : Option ℕ) → Tells (SamePart f) (searched_if h f o)
  searched_if_part f None = done_tells (SamePart f) f refl
  searched_if_part f (Some c) = searched_part f c

  anew_part : (c : ℕ) (f : Frame) → Tells (SamePart f) (searched_anew h c f)
  anew_part c f =
      tested_tells (is_region_body h.rules f) (searched_if_part f (search_col c f.search))
      (done_tells (SamePart f) f refl)

  same_weight : (f g : Frame) (fs gs : List Frame) → SamePart f g → weight gs ≡ weight fs →
      weight (g ∷ gs) ≡ weight (f ∷ fs)
  same_weight f g fs gs p w =
      ap (λ (q : Part). part_weight q + weight gs) p ∙ ap (λ n. part_weight f.part + n) w

  abbrev Weighs : ℕ → List Frame → Type 0
  Weighs n fs = weight fs ≡ n

  abbrev AnewWeighs : ℕ → Anew → Type 0
  AnewWeighs n r = weight r.frames ≡ n

  body_weight : (fs : List Frame) → Tells (Weighs (weight fs)) (body_after_area h fs)
  body_weight [] = done_tells (Weighs 0) [] refl
  body_weight (f ∷ below) =
      after_tells (SamePart f) (Weighs (weight (f ∷ below))) _ _
      (tested_tells (is_region_body h.rules f && is_none f.known_end)
      (searched_if_part f (col_here f.search)) (done_tells (SamePart f) f refl))
      (λ g p. done_tells (Weighs (weight (f ∷ below))) (g ∷ below)
      (same_weight f g below below p refl))

  anew_weight : (c : ℕ) (fs : List Frame) →
      Tells (AnewWeighs (weight fs)) (anew_over_keepend h c fs)
  anew_weight c [] = done_tells (AnewWeighs 0) (untouched []) refl
  anew_weight c (f ∷ below) =
      after_tells (AnewWeighs (weight below)) (AnewWeighs (weight (f ∷ below))) _ _
      (tested_tells (has_extend h.rules.items f)
      (done_tells (AnewWeighs (weight below)) (untouched below) refl) (anew_weight c below))
      (λ rest w. after_tells (SamePart f) (AnewWeighs (weight (f ∷ below))) _ _
      (tested_tells (rest.over || has_keepend h.rules.items f) (anew_part c f)
      (done_tells (SamePart f) f refl))
      (λ g p. done_tells (AnewWeighs (weight (f ∷ below)))
      (record { frames = g ∷ rest.frames; over = rest.over || has_keepend h.rules.items f })
      (same_weight f g below rest.frames p w)))

  exposed_weight : (c : ℕ) (v : Bool) (fs : List Frame) →
      Tells (Weighs (weight fs)) (exposed_anew h c v fs)
  exposed_weight c v [] = done_tells (Weighs 0) [] refl
  exposed_weight c v (f ∷ below) =
      after_tells (SamePart f) (Weighs (weight (f ∷ below))) _ _
      (tested_tells (v || has_keepend h.rules.items f) (done_tells (SamePart f) f refl)
      (anew_part c f))
      (λ g p. done_tells (Weighs (weight (f ∷ below))) (g ∷ below)
      (same_weight f g below below p refl))

  after_weight : (c : ℕ) (popped : Frame) (below : List Frame) →
      Tells (Weighs (weight below)) (frames_after h c popped below)
  after_weight c popped below =
      after_tells (AnewWeighs (weight below)) (Weighs (weight below)) _ _
      (tested_tells (has_extend h.rules.items popped) (anew_weight c below)
      (done_tells (AnewWeighs (weight below)) (untouched below) refl))
      (λ r w. weaker_tells (Weighs (weight r.frames)) (Weighs (weight below))
      (exposed_anew h c r.over r.frames) (λ gs e. e ∙ w) (exposed_weight c r.over r.frames))

  -- only a body becomes an end area
  becomes_body : (place : Spot) (top : Frame) (below : List Frame) →
      closing_of h.rules place top below ≡ BecomesArea → is_body top.part ≡ true
  becomes_body place top below e =
      by_tests (is_reached place (kept_end_over h.rules.items top below)) (is_body top.part)
      (is_region (item_of h.rules.items top.item).kind) (is_reached place top.known_end)
      (goes_beyond place top.area_end) (is_start_area top.part) e
    where
      by_tests : (a b c d g v : Bool) →
          elim a as (λ _. Closing) [
            | false ↦ Stays
            | true ↦ elim (b && c && d && g) as (λ _. Closing) [
              | true ↦ BecomesArea
              | false ↦ elim v as (λ _. Closing)
                  [ true ↦ LeavesArea | false ↦ Leaves ]
            ]
          ] ≡ BecomesArea → b ≡ true
      by_tests a true c d g v e = refl
      by_tests false false c d g v e = absurd (cc)
      by_tests true false c d g true e = absurd (cc)
      by_tests true false c d g false e = absurd (cc)

  -- what a step leaves is lighter
  abbrev IsLighter : ℕ → Option Standing → Type 0
  IsLighter n None = Unit {0}
  IsLighter n (Some s) = weight s.stack < n

  some_weight : (p : Part) → 0 < part_weight p
  some_weight Body = omega arith
  some_weight StartArea = omega arith
  some_weight EndArea = omega arith
  some_weight Keyword = omega arith

  two_weight : (p : Part) → is_body p ≡ true → part_weight p ≡ 2
  two_weight Body e = refl
  two_weight StartArea e = absurd (cc)
  two_weight EndArea e = absurd (cc)
  two_weight Keyword e = absurd (cc)

  top_lighter : (c : ℕ) (s : Standing) (top : Frame) (below : List Frame) (how : Closing) →
      (how ≡ BecomesArea → is_body top.part ≡ true) →
      Tells (IsLighter (weight (top ∷ below))) (close_top h c s top below how)
  top_lighter c s top below Stays b = done_tells (IsLighter (weight (top ∷ below))) None tt
  top_lighter c s top below BecomesArea b =
      record {
        holds =
            (let w : part_weight top.part ≡ 2 = two_weight top.part (b refl) in omega (arith, w));
      }
  top_lighter c s top below LeavesArea b =
      after_tells (Weighs (weight below)) (IsLighter (weight (top ∷ below)))
      (body_after_area h below) _ (body_weight below)
      (λ frames w. record { holds = omega (arith, w, some_weight top.part) })
  top_lighter c s top below Leaves b =
      after_tells (Weighs (weight below)) (IsLighter (weight (top ∷ below)))
      (frames_after h c top below) _ (after_weight c top below)
      (λ frames w. record { holds = omega (arith, w, some_weight top.part) })

  once_lighter : (c : ℕ) (s : Standing) (fs : List Frame) →
      Tells (IsLighter (weight fs)) (close_once h c s fs)
  once_lighter c s [] = done_tells (IsLighter 0) None tt
  once_lighter c s (top ∷ below) = by_over s.is_over
    where
      by_over : (v : Bool) →
          Tells (IsLighter (weight (top ∷ below)))
          (close_top h c s top below
          (elim v as (λ _. Closing)
          [ true ↦ Stays | false ↦ closing_of h.rules (At 0 c) top below ]))
      by_over true = top_lighter c s top below Stays (λ e. absurd (cc))
      by_over false =
          top_lighter c s top below (closing_of h.rules (At 0 c) top below)
          (becomes_body (At 0 c) top below)

  no_frames : (fs : List Frame) → weight fs ≤ 0 → fs ≡ []
  no_frames [] e = refl
  no_frames (f ∷ fs) e = absurd (omega (arith, e, some_weight f.part))

  -- where a step closes nothing, it looks at nothing
  closes_some : {A : Type 0} (p : Painted Cause A) (f : A → Standing) →
      Gives (p >>= (λ a. done (Some (f a)))) None → ⊥
  closes_some (Done a k) f g = let e = g.is in absurd (cc)
  closes_some (Refused c k) f g = let e = g.is in absurd (cc)

  quiet_top : (c : ℕ) (s : Standing) (top : Frame) (below : List Frame) (how : Closing) →
      Gives (close_top h c s top below how) None →
      close_top h c s top below how ≡ done None
  quiet_top c s top below Stays g = refl
  quiet_top c s top below BecomesArea g = let e = g.is in absurd (cc)
  quiet_top c s top below LeavesArea g = absurd (closes_some (body_after_area h below) _ g)
  quiet_top c s top below Leaves g = absurd (closes_some (frames_after h c top below) _ g)

  quiet_once : (c : ℕ) (s : Standing) (fs : List Frame) → Gives (close_once h c s fs) None →
      close_once h c s fs ≡ done None
  quiet_once c s [] g = refl
  quiet_once c s (top ∷ below) g = quiet_top c s top below _ g

  abbrev AtEnd : ℕ → Standing → Type 0
  AtEnd c t = close_once h c t t.stack ≡ done None

  ends_in : (n c : ℕ) (s : Standing) → weight s.stack ≤ n → Tells (AtEnd c) (closed_in n h c s)
  ends_in zero c s w = done_tells (AtEnd c) s (ap (close_once h c s) (no_frames s.stack w))
  ends_in (suc n) c s w =
      then_tells (AtEnd c) (close_once h c s s.stack) _
      (λ next g. by_next (λ more less. ends_in n c more less) next g
      (told (IsLighter (weight s.stack)) (close_once h c s s.stack) next
      (once_lighter c s s.stack) g))
    where
      by_next : ((more : Standing) → weight more.stack ≤ n →
          Tells (AtEnd c) (closed_in n h c more)) → (next : Option Standing) →
          Gives (close_once h c s s.stack) next → IsLighter (weight s.stack) next →
          Tells (AtEnd c)
          (elim next as (λ _. Painted Cause Standing)
          [ None ↦ done s | Some more ↦ closed_in n h c more ])
      by_next go None g l = done_tells (AtEnd c) s (quiet_once c s s.stack g)
      by_next go (Some more) g l = go more (omega (arith, l, w))

  light : (fs : List Frame) → weight fs ≤ length fs + length fs
  light [] = omega arith
  light (f ∷ fs) = omega (arith, light fs, most f.part)
    where
      most : (p : Part) → part_weight p ≤ 2
      most Body = omega arith
      most StartArea = omega arith
      most EndArea = omega arith
      most Keyword = omega arith

  pub closing_ends_here : (c : ℕ) (s t : Standing) → Gives (closed h c s) t → AtEnd c t
  closing_ends_here c s t g =
      told (AtEnd c) (closed h c s) t
      (ends_in (length s.stack + length s.stack) c s (light s.stack)) g

pub closing_ends : ClosingEnds
closing_ends h c before after g = closing_ends_here h c before after g
