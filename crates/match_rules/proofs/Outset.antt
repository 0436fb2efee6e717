-- What a pattern does before its first tick depends on no text and no place: each way stands where the
-- pattern began. So the first tick looks at that line.
use Rattle.std.proofs.Common.{◌≡◌, ℕ, ◌≤◌, Bool, true, false, List, [], ◌∷◌, ◌++◌, refl, ap, ◌∙◌, arith, subst}
use Rattle.std.specs.Prelude.{Option, Some, None, pos, ◌-ℤ◌, ◌≤ℤ◌}
use Rattle.std.proofs.lemmas.Int.{ints}
use Rattle.std.proofs.lemmas.Bool.Decides.{nat_tests}
use Rattle.syn_base.specs.declared.looked.Looked.{Looked}
use Rattle.syn_base.specs.declared.places.Place.{Place}
use Rattle.syn_base.specs.Looked.{hull_of, one_line}
use Rattle.pattern_items.specs.declared.atom.Atom.{Atom}
use Rattle.pattern_items.specs.declared.atom.Atom.TheVariants.{FileStart, FileStop, Ref, ExternalRef}
use Rattle.vim_pattern.specs.Shape.{Shape, empty, one, seq, or, and, group, external, repeat, ahead, before, whole}
use Rattle.match_rules.specs.Ways.{Text, Context, Way, IsPlaceOf, is_after, is_same_place, behind_character}
use Rattle.match_rules.specs.Atoms.{character_at, is_line_end, only_if, behind_if, Piece, character, line_end, behind_piece, last_line_of, group_text, external_text, fits, own_line, lines_from, line_behind, lines_looked}
use Rattle.match_rules.specs.Marks.{Mark, Tick, Reach}
use Rattle.match_rules.specs.Looks.{ending_at, from_each, tried_behind}
use Rattle.match_rules.specs.Visits.{visits, behind_fit, noted, noted_external}
use Rattle.match_rules.proofs.TurnLaws.{IsWayOf}
use Rattle.match_rules.proofs.Kept.{visits-kept}
use Rattle.match_rules.proofs.SameMarks.{Same, Same-one, Same-append, Same-followed, Same-look, Same-whole, Same-turns, Same-ending_at, Same-behind, Tickless, ending_at-append}
use Rattle.match_rules.proofs.Starts.{Each, other_starts, IsElsewhere, others-elsewhere, tried_behind-split}

-- ---- an atom looks at its line

-- a line is among the lines looked at
abbrev pub Covers : ℕ → Looked → Type 0
Covers l k = (k.low ≤ℤ pos l) × (pos l ≤ℤ k.high)

abbrev pub IsLaterOrNone : Place → Option Place → Type 0
IsLaterOrNone p None = Unit {0}
IsLaterOrNone p (Some q) = p.line ≤ q.line

pub covers-hull : (l : ℕ) (a b : Looked) → Covers l a → Covers l (hull_of a b)
covers-hull l a b h = (grind (arith, ints, h.0), grind (arith, ints, h.1))

only_if-later : (p : Place) (b : Bool) (q : Place) → p.line ≤ q.line → IsLaterOrNone p (only_if b q)
only_if-later p true q h = h
only_if-later p false q h = tt

behind_if-later : (test : ℕ → Bool) (o : Option ℕ) (p : Place) →
    IsLaterOrNone p (behind_if test o p)
behind_if-later test None p = tt
behind_if-later test (Some c) p = only_if-later p (test c) (behind_character p) (omega arith)

pub behind_piece-later : (x : Context) (piece : Piece) (p : Place) →
    IsLaterOrNone p (behind_piece x piece p)
behind_piece-later x (character c) p = behind_if-later _ (character_at x.text p) p
behind_piece-later x line_end p = only_if-later p (is_line_end x.text p) _ (omega arith)

pub last_line-later : (x : Context) (pieces : List Piece) (p : Place) →
    p.line ≤ last_line_of x pieces p
last_line-later x [] p = omega arith
last_line-later x (piece ∷ pieces) p =
    elim (behind_piece x piece p) as (λ o. IsLaterOrNone p o →
    p.line ≤ elim o as (λ _. ℕ) [ None ↦ p.line | Some q ↦ last_line_of x pieces q ]) [
      | None ↦ λ _. omega arith
      | Some q ↦ λ h. let k : q.line ≤ last_line_of x pieces q = last_line-later x pieces q in
          omega arith
    ] (behind_piece-later x piece p)

pub line_behind-later : (text : Text) (l : ℕ) → l ≤ line_behind text l
line_behind-later text l = grind (arith, nat_tests)

covers-one : (l : ℕ) → Covers l (one_line (pos l))
covers-one l = (omega (arith, ints), omega (arith, ints))

covers-from : (l high : ℕ) → Covers l (lines_from l high)
covers-from l high = covers-hull l (one_line (pos l)) (one_line (pos high)) (covers-one l)

pub looks-here : (x : Context) (w : Way) (a : Atom) → Covers w.at.line (lines_looked x w a)
looks-here x w FileStart =
    covers-hull w.at.line (own_line w) (one_line (pos w.at.line -ℤ pos 1)) (covers-one w.at.line)
looks-here x w FileStop = covers-from w.at.line (line_behind x.text w.at.line)
looks-here x w (Ref number) = covers-from w.at.line (last_line_of x (group_text x w number) w.at)
looks-here x w (ExternalRef number) = covers-from w.at.line
    (last_line_of x (external_text x number) w.at)
looks-here x w _ = covers-one w.at.line

-- ---- before the first tick

-- two ways, each of which stands where it began
pub record Stands (s t : Text) (p q : Place) (w v : Way) : Type 0 where
  pub here : w.at ≡ p
  pub there : v.at ≡ q
  pub of : IsWayOf s w
  pub of_other : IsWayOf t v

abbrev Never : Looked → Type 0
Never l = ⊥

abbrev LooksHere : Place → Looked → Looked → Type 0
LooksHere p l k = Covers p.line l

-- up to the first tick, which looks at the line of the place
abbrev pub Outset : Text → Text → Place → Place → List Mark → List Mark → Type 0
Outset s t p q ms ns = Same Never (LooksHere p) (Stands s t p q) ms ns

-- without a tick each way is still at the place
abbrev Stays : Place → List Mark → Type 0
Stays q [] = Unit {0}
Stays q (Tick l ∷ ns) = ⊥
Stays q (Reach v ∷ ns) = (v.at ≡ q) × Stays q ns

outset-stays : (s t : Text) (p q : Place) (ms ns : List Mark) → Outset s t p q ms ns → Tickless ms →
    Stays q ns
outset-stays s t p q [] ns h k = rw h tt
outset-stays s t p q (Tick l ∷ ms) ns h k = absurd k
outset-stays s t p q (Reach w ∷ ms) ns h k = rw h.2 (h.3.there, outset-stays s t p q ms h.1 h.4 k)

if_false : (b : Bool) (x y : List Mark) → b ≡ false → y ≡ [] →
    elim b as (λ _. List Mark) [ true ↦ x | false ↦ y ] ≡ []
if_false false x y e h = h
if_false true x y e h = absurd (cc)

stays-none : (q r : Place) (ns : List Mark) → is_same_place q r ≡ false → Stays q ns →
    ending_at r ns ≡ []
stays-none q r [] e h = refl
stays-none q r (Tick l ∷ ns) e h = absurd h
stays-none q r (Reach v ∷ ns) e h =
    if_false (is_same_place v.at r) (Reach v ∷ ending_at r ns) (ending_at r ns)
    (ap (λ z. is_same_place z r) h.0 ∙ e) (stays-none q r ns e h.1)

tickless-if : (b : Bool) (w : Way) (ms : List Mark) →
    Tickless (elim b as (λ _. List Mark) [ true ↦ Reach w ∷ ms | false ↦ ms ]) → Tickless ms
tickless-if true w ms h = h
tickless-if false w ms h = h

tickless-ending_at : (p : Place) (ms : List Mark) → Tickless (ending_at p ms) → Tickless ms
tickless-ending_at p [] h = tt
tickless-ending_at p (Tick l ∷ ms) h = h
tickless-ending_at p (Reach w ∷ ms) h = tickless-ending_at p ms
    (tickless-if (is_same_place w.at p) w (ending_at p ms) h)

-- a part without a tick at one place ends at no place from elsewhere
pub nowhere_else : (s t : Text) (p r : Place) (ms : List Mark) (part : Way → List Mark) (v : Way) →
    Tickless (ending_at p ms) → ((q : Place) → IsPlaceOf t q →
    Outset s t p q ms (part (record v { at = q }))) → (qs : List Place) →
    Each (IsElsewhere t r) qs → ending_at r (from_each part v qs) ≡ []
nowhere_else s t p r ms part v none same [] h = refl
nowhere_else s t p r ms part v none same (q ∷ qs) h =
    ending_at-append r (part (record v { at = q })) (from_each part v qs)
    ∙ (ap (λ a. a ++ ending_at r (from_each part v qs))
    (stays-none q r (part (record v { at = q })) (h.0).1
    (outset-stays s t p q ms (part (record v { at = q })) (same q (h.0).0)
    (tickless-ending_at p ms none)))
    ∙ nowhere_else s t p r ms part v none same qs h.1)

is_after-self : (p : Place) → is_after p p ≡ false
is_after-self p = grind (arith, nat_tests)

is_same-self : (p : Place) → is_same_place p p ≡ true
is_same-self p = grind (arith, nat_tests)

-- none of two ways that stand is behind another that stands
stands-after : (s t : Text) (p q : Place) (w v w' v' : Way) → Stands s t p q w v →
    Stands s t p q w' v' → is_after v'.at v.at ≡ is_after w'.at w.at
stands-after s t p q w v w' v' h k = rw (
  h.here,
  h.there,
  k.here,
  k.there,
  is_after-self p,
  is_after-self q,
) refl

stands-same : (s t : Text) (p q : Place) (w v : Way) → Stands s t p q w v →
    is_same_place v.at q ≡ is_same_place w.at p
stands-same s t p q w v h = rw (h.here, h.there, is_same-self p, is_same-self q) refl

-- the same places, another way
stands-back : (s t : Text) (p q : Place) (w v a b : Way) → Stands s t p q w v →
    Stands s t p q (record a { at = w.at }) (record b { at = v.at })
stands-back s t p q w v a b h = record {
  here = h.here;
  there = h.there;
  of = h.of;
  of_other = h.of_other;
}

pub outset : (n : Shape) (x y : Context) (p q : Place) (w v : Way) → Stands x.text y.text p q w v →
    Outset x.text y.text p q (visits x n w) (visits y n v)
outset empty x y p q w v h = Same-one Never (LooksHere p) (Stands x.text y.text p q) w v h
outset (one a) x y p q w v h = (
  lines_looked y v a,
  behind_fit v a (fits y v a),
  refl,
  subst (λ z. Covers z.line (lines_looked x w a)) h.here (looks-here x w a),
  λ ok. absurd ok,
)
outset (seq a b) x y p q w v h =
    Same-followed Never (LooksHere p) (Stands x.text y.text p q) (Stands x.text y.text p q)
    (visits x a w) (visits y a v) (visits x b) (visits y b) (outset a x y p q w v h)
    (λ w' v' h'. outset b x y p q w' v' h')
outset (or a b) x y p q w v h =
    Same-append Never (LooksHere p) (Stands x.text y.text p q) (visits x a w) (visits x b w)
    (visits y a v) (visits y b v) (outset a x y p q w v h) (outset b x y p q w v h)
outset (and a b) x y p q w v h =
    Same-followed Never (LooksHere p) (Stands x.text y.text p q) (Stands x.text y.text p q) _ _
    (visits x b) (visits y b)
    (Same-look Never (LooksHere p) (Stands x.text y.text p q) (Stands x.text y.text p q) false w v h
    (λ a' b' _. stands-back x.text y.text p q w v a' b' h) (visits x a w) (visits y a v)
    (outset a x y p q w v h))
    (λ w' v' h'. outset b x y p q w' v' h')
outset (group part number) x y p q w v h =
    Same-followed Never (LooksHere p) (Stands x.text y.text p q) (Stands x.text y.text p q)
    (visits x part w) (visits y part v) (noted number w.at) (noted number v.at)
    (outset part x y p q w v h)
    (λ w' v' h'. Same-one Never (LooksHere p) (Stands x.text y.text p q) _ _
    (record { here = h'.here; there = h'.there; of = h'.of; of_other = h'.of_other }))
outset (external part number) x y p q w v h =
    Same-followed Never (LooksHere p) (Stands x.text y.text p q) (Stands x.text y.text p q)
    (visits x part w) (visits y part v) (noted_external number w.at) (noted_external number v.at)
    (outset part x y p q w v h)
    (λ w' v' h'. Same-one Never (LooksHere p) (Stands x.text y.text p q) _ _
    (record { here = h'.here; there = h'.there; of = h'.of; of_other = h'.of_other }))
outset (repeat part least most lazy) x y p q w v h =
    Same-turns Never (LooksHere p) (Stands x.text y.text p q) x.text y.text (visits x part)
    (visits y part) lazy (visits-kept x part) (visits-kept y part)
    (λ w' v' h'. (h'.of, h'.of_other)) (stands-after x.text y.text p q)
    (λ w' v' h'. outset part x y p q w' v' h') least most w v h
outset (ahead part negative) x y p q w v h =
    Same-look Never (LooksHere p) (Stands x.text y.text p q) (Stands x.text y.text p q) negative w v
    h (λ a b _. stands-back x.text y.text p q w v a b h) (visits x part w) (visits y part v)
    (outset part x y p q w v h)
outset (before part negative limit) x y p q w v h =
    Same-look Never (LooksHere p) (Stands x.text y.text p q) (Stands x.text y.text p q) negative w v
    h (λ a b _. stands-back x.text y.text p q w v a b h)
    (tried_behind x.text (visits x part) limit w) (tried_behind y.text (visits y part) limit v)
    (rw (
      tried_behind-split x.text (visits x part) limit w,
      tried_behind-split y.text (visits y part) limit v,
    )
    (Same-behind Never (LooksHere p) (one_line (pos w.at.line -ℤ pos 1))
    (one_line (pos v.at.line -ℤ pos 1)) (λ l k c. covers-hull p.line l (one_line (pos w.at.line -ℤ pos 1)) c) (λ l ok. ok)
    (Stands x.text y.text p q) ⊥ (λ l ok. ok)
    (ending_at w.at (visits x part w)) (ending_at w.at
    (from_each (visits x part) w (other_starts x.text limit w.at)))
    (ending_at v.at (visits y part v)) (ending_at v.at
    (from_each (visits y part) v (other_starts y.text limit v.at)))
    (Same-ending_at Never (LooksHere p) (Stands x.text y.text p q) w.at v.at (visits x part w)
    (visits y part v) (λ w' v' h'. rw (h.here, h.there) (stands-same x.text y.text p q w' v' h'))
    (outset part x y p q w v h))
    (λ more. absurd more)
    (λ none. (
      nowhere_else x.text x.text w.at w.at (visits x part w) (visits x part) w none
          (λ r on. outset part x x w.at r w (record w { at = r })
          (record { here = refl; there = refl; of = h.of; of_other = on }))
          (other_starts x.text limit w.at) (others-elsewhere x.text limit w.at h.of),
      nowhere_else x.text y.text w.at v.at (visits x part w) (visits y part) v none
          (λ r on. outset part x y w.at r w (record v { at = r })
          (record { here = refl; there = refl; of = h.of; of_other = on }))
          (other_starts y.text limit v.at) (others-elsewhere y.text limit v.at h.of_other),
    ))))
outset (whole part) x y p q w v h = Same-whole Never (LooksHere p) (Stands x.text y.text p q)
    (visits x part w) (visits y part v) (outset part x y p q w v h)
