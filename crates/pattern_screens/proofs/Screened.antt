-- A pattern that takes nothing stands still, and one whose screen fails is tried in vain.
use Rattle.pattern_screens.proofs.Common.{◌≡◌, ℕ, ◌≤◌, Bool, true, false, List, length, refl, sym, ap, ◌∙◌, arith, subst, Option, Some, None, not-true, IfSome_then, Place, Sets, Atom, Mark, Shape, empty, one, seq, or, and, group, external, repeat, ahead, before, whole, PatternTree, Context, Way, way_from, place, line_at, is_spent, look, visits, tried, noted, noted_external, for_tree, atom_ways, bound_of, most_cost, key_of, is_lined, IsSoundAt, AreSound, is_dead, is_futile, or_maybe, still_look, still_of, Key, Still}
use Rattle.pattern_screens.proofs.Bounded.{Bounded, looking}
use Rattle.pattern_screens.proofs.InVain.{in-vain}
use Rattle.pattern_screens.proofs.LinedParts.{IsIn, lined}
use Rattle.pattern_screens.proofs.Stands.{At, LooksAt, Told, no-maybe, on-stands, reach-stands, told, told-count, told-look, told-maybe, told-or, told-then, untold, whole-stands}
use Rattle.pattern_screens.proofs.StillAtoms.{IsKeyAt, column-key, atom-stands}

-- ---- a part stands still

module _ (x : Context) (p : Place) (key : Key) (at : IsKeyAt x p key) where
  abbrev still_at : Shape → Option Still
  still_at node = still_of x.sets x.ignore key node

  atom-at : (a : Atom) (v : Way) → v.at ≡ p → Told p (still_at (one a)) (atom_ways false a) 1 (tried x v a)
  atom-at a v is = subst (λ q. Told q (still_at (one a)) (atom_ways false a) 1 (tried x v a)) is (atom-stands x v key (subst (λ q. IsKeyAt x q key) (sym is) at) a)

  look-at : (part : Shape) (negative stays : Bool) → is_lined part ≡ stays → (v : Way) → v.at ≡ p → Told p (still_at part) (bound_of false part).ways (bound_of false part).cost (visits x part v) →
      Told p (or_maybe stays (still_look negative (still_at part))) 1 (bound_of stays part).cost (look negative v (visits x part v))
  look-at part negative false stays v is h = no-maybe (still_look negative (still_at part)) (told-look negative (still_at part) v is h)
  look-at part negative true stays v is h =
      let within = lined x p.line part stays v (subst (IsIn x p.line) (sym is) (record { on = refl; within = at.within })) in
      told-maybe (still_look negative (still_at part)) (looking negative v is within) (told-look negative (still_at part) v is h)

  pub stills : (node : Shape) (v : Way) → v.at ≡ p → Told p (still_at node) (bound_of false node).ways (bound_of false node).cost (visits x node v)
  stills empty v is = told (reach-stands v is)
  stills (one a) v is = atom-at a v is
  stills (seq a b) v is = told-then (visits x b) (still_at a) (still_at b) (stills a v is) (stills b)
  stills (or a b) v is = told-or (still_at a) (still_at b) (stills a v is) (stills b v is)
  stills (and a b) v is = told-then (visits x b) (or_maybe (is_lined a) (still_at a)) (still_at b) (look-at a false (is_lined a) refl v is (stills a v is)) (stills b)
  stills (group part number) v is = record { holds = IfSome_then (still_at part) (stills part v is).holds (λ s h. on-stands (noted number v.at) h (λ u e. reach-stands _ e) (omega arith)) }
  stills (external part number) v is = record { holds = IfSome_then (still_at part) (stills part v is).holds (λ s h. on-stands (noted_external number v.at) h (λ u e. reach-stands _ e) (omega arith)) }
  stills (repeat part least most lazy) v is = told-count x.text (visits x part) lazy (is_spent most) least most (still_at part) v refl is (stills part)
  stills (ahead part negative) v is = look-at part negative (is_lined part) refl v is (stills part v is)
  stills (before part negative limit) v is = untold
  stills (whole part) v is = record { holds = IfSome_then (still_at part) (stills part v is).holds (λ s h. whole-stands h) }

-- ---- where it has no way

-- marks of a part that is known to have no way
told-dead : {p : Place} {m c : ℕ} {a : List Mark} (o : Option Still) → is_dead o ≡ true → Told p o m c a → Bounded (At p) (LooksAt p.line) 0 c a
told-dead None e h = absurd (cc)
told-dead (Some s) e h =
    let b = h.holds.bounded in
    record { here = b.here; few = omega (arith, h.holds.none (not-true s.reaches e)); cheap = b.cheap; seen = b.seen }

pub dead : (x : Context) (line col : ℕ) → col ≤ length (line_at x.text line) → (node : Shape) → is_dead (still_of x.sets x.ignore (key_of x.sets (line_at x.text line) col) node) ≡ true → (v : Way) → v.at ≡ place line col →
    Bounded (At (place line col)) (LooksAt line) 0 (most_cost node) (visits x node v)
dead x line col within node e v is =
    told-dead (still_of x.sets x.ignore (key_of x.sets (line_at x.text line) col) node) e
    (stills x (place line col) (key_of x.sets (line_at x.text line) col) (column-key x line col within) node v is)

pub law : AreSound
law tree x line col within e = in-vain (place line col) (dead (for_tree tree x) line col within tree.node e (way_from (place line col)) refl)

-- the same of a key
pub law-at : (tree : PatternTree) (sets : Sets) (ignore : Bool) (key : Key) → IsSoundAt tree sets ignore key (is_futile sets ignore key tree)
law-at tree sets ignore key x line col e same-sets same-ignore within is =
    law tree x line col within
    ((λ i. is_futile (same-sets i) (same-ignore i) (key_of (same-sets i) (line_at x.text line) col) tree) ∙ ap (λ k. is_futile sets ignore k tree) is ∙ e)

pub ruleset laws = (law-at)
