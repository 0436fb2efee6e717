-- Kinds of frames, with one more frame on top.
use Rattle.std.proofs.Common.{◌≡◌, Bool, true, false, List, [], ◌∷◌, ◌++◌, refl}
use Rattle.std.specs.Prelude.{◌&&◌}
use Rattle.paint_rules.specs.Frames.{Frame}
use Rattle.state_stack.specs.declared.kinds.Kind.{Kind}
use Rattle.state_stack.specs.Kinds.{have_kinds, is_of}

both_true : (a b : Bool) → a && b ≡ true → (a ≡ true) × (b ≡ true)
both_true true b e = (refl, e)
both_true false b e = absurd (cc)

true_both : (a b : Bool) → a ≡ true → b ≡ true → a && b ≡ true
true_both true b e h = h
true_both false b e h = absurd (cc)

module _ (less more : List Kind) (kept : (f : Frame) → is_of less f ≡ true → is_of more f ≡ true) where
  pub have_kinds_on : (fs : List Frame) (f : Frame) → have_kinds less fs ≡ true → is_of more f ≡ true → have_kinds more (fs ++ f ∷ []) ≡ true
  have_kinds_on [] f e own = true_both (is_of more f) true own refl
  have_kinds_on (g ∷ fs) f e own =
      let a = both_true (is_of less g) (have_kinds less fs) e in
      true_both (is_of more g) (have_kinds more (fs ++ f ∷ [])) (kept g a.0) (have_kinds_on fs f a.1 own)
