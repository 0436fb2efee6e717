-- Items of frames with a known end, with one more frame on top.
use Rattle.std.proofs.Common.{◌≡◌, ℕ, Bool, true, false, List, [], ◌∷◌, ◌++◌, refl}
use Rattle.std.specs.Prelude.{◌&&◌, ◌||◌, nat_eq, is_none}
use Rattle.std.proofs.lemmas.Bool.{eq-eqb}
use Rattle.syn_base.specs.declared.places.ItemId.{ItemId}
use Rattle.paint_rules.specs.Frames.{Frame}
use Rattle.state_stack.specs.declared.enders.Enders.{Enders}
use Rattle.state_stack.specs.Enders.{ends_by, have_enders, is_among}

pub is_own : (n : ℕ) → nat_eq n n ≡ true
is_own n = eq-eqb n n refl

pub or_other : (a b : Bool) → b ≡ true → a || b ≡ true
or_other true b e = refl
or_other false b e = e

both_true : (a b : Bool) → a && b ≡ true → (a ≡ true) × (b ≡ true)
both_true true b e = (refl, e)
both_true false b e = absurd (cc)

true_both : (a b : Bool) → a ≡ true → b ≡ true → a && b ≡ true
true_both true b e h = h
true_both false b e h = absurd (cc)

or_more : (a b c : Bool) → (b ≡ true → c ≡ true) → a || b ≡ true → a || c ≡ true
or_more true b c more e = refl
or_more false b c more e = more e

module _ (less more : Enders) (kept : (j : ItemId) → is_among less j ≡ true → is_among more j ≡ true) where
  still_ends : (f : Frame) → ends_by less f ≡ true → ends_by more f ≡ true
  still_ends f e = or_more (is_none f.known_end) (is_among less f.item) (is_among more f.item) (kept f.item) e

  pub have_enders_on : (fs : List Frame) (f : Frame) → have_enders less fs ≡ true → ends_by more f ≡ true → have_enders more (fs ++ f ∷ []) ≡ true
  have_enders_on [] f e own = true_both (ends_by more f) true own refl
  have_enders_on (g ∷ fs) f e own =
      let a = both_true (ends_by less g) (have_enders less fs) e in
      true_both (ends_by more g) (have_enders more (fs ++ f ∷ [])) (still_ends g a.0) (have_enders_on fs f a.1 own)
