-- Settled frames stay the same from line to line.
use Rattle.std.proofs.Common.{◌≡◌, Bool, true, false, List, [], ◌∷◌, ◌++◌, refl, ap, ◌∙◌}
use Rattle.std.specs.Prelude.{◌&&◌, map, Option, Some, None}
use Rattle.std.specs.Option.{option_map}
use Rattle.paint_rules.specs.Frames.{Frame}
use Rattle.paint_rules.specs.declared.Spot.{Spot}
use Rattle.paint_rules.specs.declared.Spot.TheVariants.{Past, At}
use Rattle.paint_rules.specs.States.{nearer, nearer_frame}
use Rattle.state_stack.specs.Settled.{is_past, is_past_end, is_settled, all_settled}

and_true : (a : Bool) → a && true ≡ a
and_true true = refl
and_true false = refl

and_assoc : (a b c : Bool) → a && (b && c) ≡ (a && b) && c
and_assoc true b c = refl
and_assoc false b c = refl

pub all_settled_on : (fs : List Frame) (f : Frame) → all_settled (fs ++ f ∷ []) ≡ all_settled fs && is_settled f
all_settled_on [] f = and_true (is_settled f)
all_settled_on (g ∷ fs) f = ap (λ b. is_settled g && b) (all_settled_on fs f) ∙ and_assoc (is_settled g) (all_settled fs) (is_settled f)

both_true : (a b : Bool) → a && b ≡ true → (a ≡ true) × (b ≡ true)
both_true true b e = (refl, e)
both_true false b e = absurd (cc)

past_stays : (s : Spot) → is_past s ≡ true → nearer s ≡ s
past_stays Past e = refl
past_stays (At k c) e = absurd (cc)

past_end_stays : (s : Option Spot) → is_past_end s ≡ true → option_map nearer s ≡ s
past_end_stays None e = refl
past_end_stays (Some s) e = ap (λ (t : Spot). Some t) (past_stays s e)

settled_stays : (f : Frame) → is_settled f ≡ true → nearer_frame f ≡ f
settled_stays f e =
    let a = both_true (is_past f.high_from) _ e in
    let b = both_true (is_past f.search) _ a.1 in
    let c = both_true (is_past_end f.known_end) _ b.1 in
    let d = both_true (is_past_end f.high_to) _ c.1 in
    let g = both_true (is_past_end f.area_end) _ d.1 in
    λ i. record f {
      known_end = past_end_stays f.known_end c.0 i;
      high_from = past_stays f.high_from a.0 i;
      high_to = past_end_stays f.high_to d.0 i;
      area_end = past_end_stays f.area_end g.0 i;
      area_high = past_end_stays f.area_high g.1 i;
      search = past_stays f.search b.0 i;
    }

pub all_stay : (fs : List Frame) → all_settled fs ≡ true → map nearer_frame fs ≡ fs
all_stay [] e = refl
all_stay (f ∷ fs) e =
    let a = both_true (is_settled f) (all_settled fs) e in
    ap (λ g. g ∷ map nearer_frame fs) (settled_stays f a.0) ∙ ap (λ gs. f ∷ gs) (all_stay fs a.1)
