-- Two lists of marks that go side by side: tick for tick, and way for way, as long as something holds of
-- the lines of each tick.
use Rattle.std.proofs.Common.{◌≡◌, ℕ, zero, suc, ◌<◌, Bool, true, false, List, [], ◌∷◌, ◌++◌, refl, ap, arith}
use Rattle.std.specs.Prelude.{Option}
use Rattle.syn_base.specs.declared.looked.Looked.{Looked}
use Rattle.syn_base.specs.declared.places.Place.{Place}
use Rattle.syn_base.specs.Looked.{hull_of}
use Rattle.match_rules.specs.Ways.{Text, Way, is_after, is_same_place}
use Rattle.match_rules.specs.Marks.{Mark, Tick, Reach, followed, ticks_first, first_way, reach_if}
use Rattle.match_rules.specs.Counts.{places_behind, turns, in_order, one_less, less_by, is_spent}
use Rattle.match_rules.specs.Looks.{look, ending_at, looking_at, from_each}
use Rattle.match_rules.proofs.Places.{fewer_behind}
use Rattle.match_rules.proofs.TurnLaws.{IsWayOf, KeepsWays, turns-next}

-- no tick is among them
abbrev pub Tickless : List Mark → Type 0
Tickless [] = Unit {0}
Tickless (Tick l ∷ ms) = ⊥
Tickless (Reach w ∷ ms) = Tickless ms

-- two lists of places, one by one
abbrev pub Beside : (Place → Place → Type 0) → List Place → List Place → Type 0
Beside R [] [] = Unit {0}
Beside R (p ∷ ps) (q ∷ qs) = R p q × Beside R ps qs
Beside R [] (q ∷ qs) = ⊥
Beside R (p ∷ ps) [] = ⊥

ending_at-more : (t : Bool) (w : Way) (r s c : List Mark) → r ≡ s ++ c → elim t as (λ _. List Mark) [ true ↦ Reach w ∷ r | false ↦ r ] ≡ elim t as (λ _. List Mark) [ true ↦ Reach w ∷ s | false ↦ s ] ++ c
ending_at-more true w r s c e = ap (λ r. Reach w ∷ r) e
ending_at-more false w r s c e = e

pub ending_at-append : (p : Place) (a b : List Mark) → ending_at p (a ++ b) ≡ ending_at p a ++ ending_at p b
ending_at-append p [] b = refl
ending_at-append p (Tick l ∷ a) b = ap (λ r. Tick l ∷ r) (ending_at-append p a b)
ending_at-append p (Reach w ∷ a) b = ending_at-more (is_same_place w.at p) w (ending_at p (a ++ b)) (ending_at p a) (ending_at p b) (ending_at-append p a b)

module _ (Ok : Looked → Type 0) (Tie : Looked → Looked → Type 0) where
  -- a tick has a tick beside it, and where its lines are right, the rest goes side by side too
  abbrev pub Same : (Way → Way → Type 0) → List Mark → List Mark → Type 0
  Same R [] ns = ns ≡ []
  Same R (Tick l ∷ ms) ns = (k : Looked) × (rest : List Mark) × (ns ≡ Tick k ∷ rest) × Tie l k × (Ok l → Same R ms rest)
  Same R (Reach w ∷ ms) ns = (v : Way) × (rest : List Mark) × (ns ≡ Reach v ∷ rest) × R w v × Same R ms rest

  pub Same-one : (R : Way → Way → Type 0) (w v : Way) → R w v → Same R (Reach w ∷ []) (Reach v ∷ [])
  Same-one R w v h = (v, [], refl, h, refl)

  pub Same-append : (R : Way → Way → Type 0) (a b c d : List Mark) → Same R a c → Same R b d → Same R (a ++ b) (c ++ d)
  Same-append R [] b c d h k = rw h k
  Same-append R (Tick l ∷ a) b c d h k =
      (h.0, h.1 ++ d, ap (λ s. s ++ d) h.2, h.3, λ ok. Same-append R a b h.1 d (h.4 ok) k)
  Same-append R (Reach w ∷ a) b c d h k =
      (h.0, h.1 ++ d, ap (λ s. s ++ d) h.2, h.3, Same-append R a b h.1 d h.4 k)

  pub Same-followed : (R S : Way → Way → Type 0) (a c : List Mark) (f g : Way → List Mark) → Same R a c → ((w v : Way) → R w v → Same S (f w) (g v)) → Same S (followed a f) (followed c g)
  Same-followed R S [] c f g h k = rw h refl
  Same-followed R S (Tick l ∷ a) c f g h k =
      (h.0, followed h.1 g, ap (λ s. followed s g) h.2, h.3, λ ok. Same-followed R S a h.1 f g (h.4 ok) k)
  Same-followed R S (Reach w ∷ a) c f g h k =
      rw h.2 (Same-append S (f w) (followed a f) (g h.0) (followed h.1 g) (k w h.0 h.3) (Same-followed R S a h.1 f g h.4 k))

  pub Same-map : (R S : Way → Way → Type 0) (a c : List Mark) → ((w v : Way) → R w v → S w v) → Same R a c → Same S a c
  Same-map R S [] c f h = h
  Same-map R S (Tick l ∷ a) c f h = (h.0, h.1, h.2, h.3, λ ok. Same-map R S a h.1 f (h.4 ok))
  Same-map R S (Reach w ∷ a) c f h = (h.0, h.1, h.2, f w h.0 h.3, Same-map R S a h.1 f h.4)

  pub Same-if : (R : Way → Way → Type 0) (b d : Bool) (x1 x2 y1 y2 : List Mark) → d ≡ b → (b ≡ true → Same R x1 y1) → (b ≡ false → Same R x2 y2) → Same R (elim b as (λ _. List Mark) [ true ↦ x1 | false ↦ x2 ]) (elim d as (λ _. List Mark) [ true ↦ y1 | false ↦ y2 ])
  Same-if R true true x1 x2 y1 y2 e h k = h refl
  Same-if R false false x1 x2 y1 y2 e h k = k refl
  Same-if R true false x1 x2 y1 y2 e h k = absurd (cc)
  Same-if R false true x1 x2 y1 y2 e h k = absurd (cc)

  Same-in_order : (R : Way → Way → Type 0) (lazy : Bool) (a b c d : List Mark) → Same R a c → Same R b d → Same R (in_order lazy a b) (in_order lazy c d)
  Same-in_order R true a b c d h k = Same-append R b a d c k h
  Same-in_order R false a b c d h k = Same-append R a b c d h k

  -- the first way of the one is beside that of the other
  pub Same-look : (R S : Way → Way → Type 0) (negative : Bool) (w v : Way) → S w v → ((a b : Way) → R a b → S (record a { at = w.at }) (record b { at = v.at })) → (ms ns : List Mark) → Same R ms ns → Same S (look negative w ms) (look negative v ns)
  Same-look R S true w v m f [] ns h = rw h (Same-one S w v m)
  Same-look R S false w v m f [] ns h = rw h refl
  Same-look R S true w v m f (Reach a ∷ ms) ns h = rw h.2 refl
  Same-look R S false w v m f (Reach a ∷ ms) ns h = rw h.2 (Same-one S (record a { at = w.at }) (record h.0 { at = v.at }) (f a h.0 h.3))
  Same-look R S negative w v m f (Tick l ∷ ms) ns h =
      (h.0, look negative v h.1, ap (λ s. look negative v s) h.2, h.3, λ ok. Same-look R S negative w v m f ms h.1 (h.4 ok))

  pub Same-whole : (R : Way → Way → Type 0) (ms ns : List Mark) → Same R ms ns → Same R (ticks_first ms ++ reach_if (first_way ms)) (ticks_first ns ++ reach_if (first_way ns))
  Same-whole R [] ns h = rw h refl
  Same-whole R (Reach a ∷ ms) ns h = rw h.2 (Same-one R a h.0 h.3)
  Same-whole R (Tick l ∷ ms) ns h =
      (h.0, ticks_first h.1 ++ reach_if (first_way h.1), ap (λ s. ticks_first s ++ reach_if (first_way s)) h.2, h.3, λ ok. Same-whole R ms h.1 (h.4 ok))

  -- ---- counts

  module _ (R : Way → Way → Type 0) (s t : Text) (X Y : Way → List Mark) (lazy : Bool) (keeps : KeepsWays s X) (keeps' : KeepsWays t Y)
      (on : (w v : Way) → R w v → IsWayOf s w × IsWayOf t v)
      (after : (w v w' v' : Way) → R w v → R w' v' → is_after v'.at v.at ≡ is_after w'.at w.at)
      (same : (w v : Way) → R w v → Same R (X w) (Y v)) where
    Same-free : (n : ℕ) (most : Option ℕ) (w v : Way) → R w v → places_behind s w.at < n → Same R (turns s X lazy 0 most w) (turns t Y lazy 0 most v)
    Same-free zero most w v m h = absurd (omega arith)
    Same-free (suc n) most w v m h =
        rw (turns-next s X lazy keeps 0 most w (on w v m).0, turns-next t Y lazy keeps' 0 most v (on w v m).1)
        (Same-if R (is_spent most) (is_spent most) _ _ _ _ refl (λ _. Same-one R w v m)
        (λ _. Same-in_order R lazy _ _ _ _
        (Same-followed R R (X w) (Y v) _ _ (same w v m)
        (λ w' v' m'. Same-if R (is_after w'.at w.at) (is_after v'.at v.at) _ _ _ _ (after w v w' v' m m')
        (λ e. let less : places_behind s w'.at < places_behind s w.at = fewer_behind s w.at w'.at (on w v m).0 (on w' v' m').0 e in
        Same-free n (one_less most) w' v' m' (omega arith))
        (λ _. refl)))
        (Same-one R w v m)))

    pub Same-turns : (least : ℕ) (most : Option ℕ) (w v : Way) → R w v → Same R (turns s X lazy least most w) (turns t Y lazy least most v)
    Same-turns zero most w v m = Same-free (suc (places_behind s w.at)) most w v m (omega arith)
    Same-turns (suc least) most w v m =
        Same-if R (is_spent most) (is_spent most) _ _ _ _ refl (λ _. Same-one R w v m)
        (λ _. Same-followed R R (X w) (Y v) _ _ (same w v m)
        (λ w' v' m'. Same-if R (is_after w'.at w.at) (is_after v'.at v.at) _ _ _ _ (after w v w' v' m m')
        (λ _. Same-turns least (one_less most) w' v' m')
        (λ _. Same-free (suc (places_behind s w'.at)) (less_by most (suc least)) w' v' m' (omega arith))))

  -- ---- looks behind

  pub Same-ending_at : (R : Way → Way → Type 0) (p q : Place) (ms ns : List Mark) → ((w v : Way) → R w v → is_same_place v.at q ≡ is_same_place w.at p) → Same R ms ns → Same R (ending_at p ms) (ending_at q ns)
  Same-ending_at R p q [] ns e h = rw h refl
  Same-ending_at R p q (Tick l ∷ ms) ns e h =
      (h.0, ending_at q h.1, ap (λ s. ending_at q s) h.2, h.3, λ ok. Same-ending_at R p q ms h.1 e (h.4 ok))
  Same-ending_at R p q (Reach w ∷ ms) ns e h =
      let rest = Same-ending_at R p q ms h.1 e h.4 in
      rw h.2 (Same-if R (is_same_place w.at p) (is_same_place (h.0).at q) (Reach w ∷ ending_at p ms) (ending_at p ms) (Reach h.0 ∷ ending_at q h.1) (ending_at q h.1) (e w h.0 h.3)
      (λ _. (h.0, ending_at q h.1, refl, h.3, rest))
      (λ _. rest))

  pub Same-from_each : (P : Place → Place → Type 0) (R : Way → Way → Type 0) (f g : Way → List Mark) (w v : Way) → ((p q : Place) → P p q → Same R (f (record w { at = p })) (g (record v { at = q }))) → (ps qs : List Place) → Beside P ps qs → Same R (from_each f w ps) (from_each g v qs)
  Same-from_each P R f g w v same [] [] h = refl
  Same-from_each P R f g w v same (p ∷ ps) (q ∷ qs) h =
      Same-append R (f (record w { at = p })) (from_each f w ps) (g (record v { at = q })) (from_each g v qs) (same p q h.0) (Same-from_each P R f g w v same ps qs h.1)
  Same-from_each P R f g w v same [] (q ∷ qs) h = absurd h
  Same-from_each P R f g w v same (p ∷ ps) [] h = absurd h

  -- where each tick looks at some more lines
  module _ (m n : Looked) (joins : (l k : Looked) → Tie l k → Tie (hull_of l m) (hull_of k n)) (parts : (l : Looked) → Ok (hull_of l m) → Ok l) where
    Same-looking_at : (R : Way → Way → Type 0) (ms ns : List Mark) → Same R ms ns → Same R (looking_at m ms) (looking_at n ns)
    Same-looking_at R [] ns h = rw h refl
    Same-looking_at R (Tick l ∷ ms) ns h =
        (hull_of h.0 n, looking_at n h.1, ap (λ s. looking_at n s) h.2, joins l h.0 h.3, λ ok. Same-looking_at R ms h.1 (h.4 (parts l ok)))
    Same-looking_at R (Reach w ∷ ms) ns h =
        (h.0, looking_at n h.1, ap (λ s. looking_at n s) h.2, h.3, Same-looking_at R ms h.1 h.4)

    -- What comes second is side by side if those lines are right, so behind a tick. Where the first has
    -- no tick there is no second.
    pub Same-behind : (R : Way → Way → Type 0) (More : Type 0) → ((l : Looked) → Ok (hull_of l m) → More) → (a b c d : List Mark) → Same R a c → (More → Same R b d) → (Tickless a → (b ≡ []) × (d ≡ [])) → Same R (looking_at m (a ++ b)) (looking_at n (c ++ d))
    Same-behind R More more [] b c d h k none = rw (h, (none tt).0, (none tt).1) refl
    Same-behind R More more (Tick l ∷ a) b c d h k none = (
      hull_of h.0 n,
      looking_at n (h.1 ++ d),
      ap (λ s. looking_at n (s ++ d)) h.2,
      joins l h.0 h.3,
      λ ok. Same-looking_at R (a ++ b) (h.1 ++ d) (Same-append R a b h.1 d (h.4 (parts l ok)) (k (more l ok))),
    )
    Same-behind R More more (Reach w ∷ a) b c d h k none =
        (h.0, looking_at n (h.1 ++ d), ap (λ s. looking_at n (s ++ d)) h.2, h.3, Same-behind R More more a b h.1 d h.4 k none)
