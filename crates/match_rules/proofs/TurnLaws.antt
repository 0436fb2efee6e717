-- A count is its own next turn and the rest, for a part that keeps its ways on the text.
use Rattle.std.proofs.Common.{◌≡◌, ◌≢◌, ℕ, zero, suc, ◌-◌, ◌<◌, Bool, true, false, List, [], ◌∷◌, refl, ap, ◌∙◌, arith}
use Rattle.std.specs.Prelude.{Option}
use Rattle.syn_base.specs.declared.places.Place.{Place}
use Rattle.match_rules.specs.Ways.{Text, Way, IsPlaceOf, is_after}
use Rattle.match_rules.specs.Marks.{Mark, Reach, followed}
use Rattle.match_rules.specs.Counts.{places_behind, free_turns, turns, in_order, one_less, less_by, is_spent, after_turn, next_turn}
use Rattle.match_rules.proofs.MarkLaws.{AllWays, followed-same}
use Rattle.match_rules.proofs.Places.{fewer_behind}

abbrev pub IsWayOf : Text → Way → Type 0
IsWayOf text w = IsPlaceOf text w.at

-- from ways on the text come ways on the text
abbrev pub KeepsWays : Text → (Way → List Mark) → Type 0
KeepsWays text part = (w : Way) → IsWayOf text w → AllWays (IsWayOf text) (part w)

pub by_cases : (b : Bool) (x x' y y' : List Mark) → (b ≡ true → x ≡ x') → (b ≡ false → y ≡ y') → elim b as (λ _. List Mark) [ true ↦ x | false ↦ y ] ≡ elim b as (λ _. List Mark) [ true ↦ x' | false ↦ y' ]
by_cases true x x' y y' h k = h refl
by_cases false x x' y y' h k = k refl

module _ (text : Text) (part : Way → List Mark) (lazy : Bool) (keeps : KeepsWays text part) where
  -- more turns than there are places behind change nothing
  pub turns_enough : (n m : ℕ) (most : Option ℕ) (w : Way) → IsWayOf text w → places_behind text w.at < n → places_behind text w.at < m → free_turns part lazy n most w ≡ free_turns part lazy m most w
  turns_enough zero m most w h a b = absurd (omega arith)
  turns_enough (suc n) zero most w h a b = absurd (omega arith)
  turns_enough (suc n) (suc m) most w h a b =
      by_cases (is_spent most) _ _ _ _ (λ _. refl)
      (λ _. ap (λ r. in_order lazy r (Reach w ∷ []))
      (followed-same (IsWayOf text) (part w) _ _ (keeps w h)
      (λ v k. by_cases (is_after v.at w.at) _ _ _ _
      (λ e. let less : places_behind text v.at < places_behind text w.at = fewer_behind text w.at v.at h k e in
      turns_enough n m (one_less most) v k (omega arith) (omega arith))
      (λ _. refl))))

  -- a count is its own next turn and the rest
  pub turns-next : (least : ℕ) (most : Option ℕ) (w : Way) → IsWayOf text w → turns text part lazy least most w ≡ next_turn text part lazy least most w
  turns-next zero most w h =
      by_cases (is_spent most) _ _ _ _ (λ _. refl)
      (λ _. ap (λ r. in_order lazy r (Reach w ∷ []))
      (followed-same (IsWayOf text) (part w) _ _ (keeps w h)
      (λ v k. by_cases (is_after v.at w.at) _ _ _ _
      (λ e. let less : places_behind text v.at < places_behind text w.at = fewer_behind text w.at v.at h k e in
      turns_enough (places_behind text w.at) (suc (places_behind text v.at)) (one_less most) v k (omega arith) (omega arith))
      (λ _. refl))))
  turns-next (suc least) most w h = refl

  -- at its greatest count it stops
  pub turns-spent : (least : ℕ) (most : Option ℕ) (w : Way) → IsWayOf text w → is_spent most ≡ true → turns text part lazy least most w ≡ Reach w ∷ []
  turns-spent least most w h e = turns-next least most w h ∙ rw (e, next_turn) refl

  -- from the least count on it may stop
  pub turns-free : (most : Option ℕ) (w : Way) → IsWayOf text w → is_spent most ≡ false → turns text part lazy 0 most w ≡ in_order lazy (followed (part w) (after_turn text part lazy 0 most w.at)) (Reach w ∷ [])
  turns-free most w h e = turns-next 0 most w h ∙ rw (e, next_turn) refl

-- below the least count a turn is forced
pub turns-forced : (text : Text) (part : Way → List Mark) (lazy : Bool) (least : ℕ) (most : Option ℕ) (w : Way) → is_spent most ≡ false → 0 < least →
    turns text part lazy least most w ≡ followed (part w) (after_turn text part lazy least most w.at)
turns-forced text part lazy zero most w e h = absurd (omega arith)
turns-forced text part lazy (suc least) most w e h = rw (e, turns) refl

-- behind a turn that took something the others are counted
pub after_turn-took : (text : Text) (part : Way → List Mark) (lazy : Bool) (least : ℕ) (most : Option ℕ) (from : Place) (v : Way) → is_after v.at from ≡ true →
    after_turn text part lazy least most from v ≡ turns text part lazy (least - 1) (one_less most) v
after_turn-took text part lazy zero most from v e = rw (e, after_turn) refl
after_turn-took text part lazy (suc least) most from v e =
    let k : suc least - 1 ≡ least = omega arith in rw (e, after_turn, k)

-- a forced turn that took nothing stands for all that are left
pub after_turn-empty : (text : Text) (part : Way → List Mark) (lazy : Bool) (least : ℕ) (most : Option ℕ) (from : Place) (v : Way) → is_after v.at from ≡ false → least ≢ 0 →
    after_turn text part lazy least most from v ≡ turns text part lazy 0 (less_by most least) v
after_turn-empty text part lazy zero most from v e h = absurd (h refl)
after_turn-empty text part lazy (suc least) most from v e h = rw (e, after_turn) refl

-- and from the least count on its way is dropped
pub after_turn-dropped : (text : Text) (part : Way → List Mark) (lazy : Bool) (most : Option ℕ) (from : Place) (v : Way) → is_after v.at from ≡ false →
    after_turn text part lazy 0 most from v ≡ []
after_turn-dropped text part lazy most from v e = rw (e, after_turn) refl
