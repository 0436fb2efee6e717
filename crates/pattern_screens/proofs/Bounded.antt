-- Marks whose ways stand at places of one kind and whose ticks look at lines of one kind: how many of both there
-- are at most.
use Rattle.pattern_screens.proofs.Common.{◌≡◌, ℕ, zero, suc, ◌+◌, ◌*◌, ◌<◌, ◌≤◌, Bool, true, false, List, [], ◌∷◌, ◌++◌, refl, ap, arith, subst, Option, Some, None, same_Some, none-some, suc-mul, mul-le-mul_right, mul-le-mul_left, Looked, Place, Way, is_after, Mark, Tick, Reach, followed, ticks_first, first_way, reach_if, free_turns, in_order, one_less, is_spent, look, look_end, AllWays, AllWays-append, AllWays-followed, chain_ways, chain_cost}

-- ---- counts of marks

abbrev pub ways_of : List Mark → ℕ
ways_of [] = 0
ways_of (Tick l ∷ marks) = ways_of marks
ways_of (Reach w ∷ marks) = suc (ways_of marks)

abbrev pub ticks_of : List Mark → ℕ
ticks_of [] = 0
ticks_of (Tick l ∷ marks) = suc (ticks_of marks)
ticks_of (Reach w ∷ marks) = ticks_of marks

abbrev pub AllTicks : (Looked → Type 0) → List Mark → Type 0
AllTicks Q [] = Unit {0}
AllTicks Q (Tick l ∷ marks) = Q l × AllTicks Q marks
AllTicks Q (Reach w ∷ marks) = AllTicks Q marks

pub ways-append : (a b : List Mark) → ways_of (a ++ b) ≡ ways_of a + ways_of b
ways-append [] b = omega arith
ways-append (Tick l ∷ a) b = ways-append a b
ways-append (Reach w ∷ a) b = omega (arith, ways-append a b)

pub ticks-append : (a b : List Mark) → ticks_of (a ++ b) ≡ ticks_of a + ticks_of b
ticks-append [] b = omega arith
ticks-append (Tick l ∷ a) b = omega (arith, ticks-append a b)
ticks-append (Reach w ∷ a) b = ticks-append a b

pub seen-append : (Q : Looked → Type 0) (a b : List Mark) → AllTicks Q a → AllTicks Q b → AllTicks Q (a ++ b)
seen-append Q [] b h k = k
seen-append Q (Tick l ∷ a) b h k = (h.0, seen-append Q a b h.1 k)
seen-append Q (Reach w ∷ a) b h k = seen-append Q a b h k

pub seen-under : (P Q : Looked → Type 0) (a : List Mark) → ((l : Looked) → P l → Q l) → AllTicks P a → AllTicks Q a
seen-under P Q [] f h = tt
seen-under P Q (Tick l ∷ a) f h = (f l h.0, seen-under P Q a f h.1)
seen-under P Q (Reach w ∷ a) f h = seen-under P Q a f h

-- ---- of marks that are followed

pub followed-ways : (P : Way → Type 0) (n : ℕ) (a : List Mark) (f : Way → List Mark) → AllWays P a → ((w : Way) → P w → ways_of (f w) ≤ n) → ways_of (followed a f) ≤ ways_of a * n
followed-ways P n [] f h k = omega arith
followed-ways P n (Tick l ∷ a) f h k = followed-ways P n a f h k
followed-ways P n (Reach w ∷ a) f h k =
    omega (arith, ways-append (f w) (followed a f), suc-mul (ways_of a) n, k w h.0, followed-ways P n a f h.1 k)

followed-ticks : (P : Way → Type 0) (n : ℕ) (a : List Mark) (f : Way → List Mark) → AllWays P a → ((w : Way) → P w → ticks_of (f w) ≤ n) → ticks_of (followed a f) ≤ ticks_of a + ways_of a * n
followed-ticks P n [] f h k = omega arith
followed-ticks P n (Tick l ∷ a) f h k = omega (arith, followed-ticks P n a f h k)
followed-ticks P n (Reach w ∷ a) f h k =
    omega (arith, ticks-append (f w) (followed a f), suc-mul (ways_of a) n, k w h.0, followed-ticks P n a f h.1 k)

pub followed-some : (P : Way → Type 0) (a : List Mark) (f : Way → List Mark) → AllWays P a → ((w : Way) → P w → 0 < ways_of (f w)) → 0 < ways_of a → 0 < ways_of (followed a f)
followed-some P [] f h k some = some
followed-some P (Tick l ∷ a) f h k some = followed-some P a f h k some
followed-some P (Reach w ∷ a) f h k some = omega (arith, ways-append (f w) (followed a f), k w h.0)

seen-followed : (P : Way → Type 0) (Q : Looked → Type 0) (a : List Mark) (f : Way → List Mark) → AllWays P a → AllTicks Q a → ((w : Way) → P w → AllTicks Q (f w)) → AllTicks Q (followed a f)
seen-followed P Q [] f h q k = tt
seen-followed P Q (Tick l ∷ a) f h q k = (q.0, seen-followed P Q a f h q.1 k)
seen-followed P Q (Reach w ∷ a) f h q k = seen-append Q (f w) (followed a f) (k w h.0) (seen-followed P Q a f h.1 q k)

-- where nothing is reached, nothing follows
pub followed-none : (a : List Mark) (f : Way → List Mark) → ways_of a ≡ 0 → followed a f ≡ a
followed-none [] f h = refl
followed-none (Tick l ∷ a) f h = ap (λ r. Tick l ∷ r) (followed-none a f h)
followed-none (Reach w ∷ a) f h = absurd (omega arith)

-- ---- up to the first way

pub first-ways : (a : List Mark) → ways_of (ticks_first a) ≡ 0
first-ways [] = refl
first-ways (Tick l ∷ a) = first-ways a
first-ways (Reach w ∷ a) = refl

pub first-none : (a : List Mark) → ways_of a ≡ 0 → first_way a ≡ None
first-none [] h = refl
first-none (Tick l ∷ a) h = first-none a h
first-none (Reach w ∷ a) h = absurd (omega arith)

pub first-some : (a : List Mark) → 0 < ways_of a → (w : Way) × (first_way a ≡ Some w)
first-some [] h = absurd (omega arith)
first-some (Tick l ∷ a) h = first-some a h
first-some (Reach w ∷ a) h = (w, refl)

-- how many ways end what is tried up to the first way
pub ended-ways : (e : Option Way → List Mark) (a : List Mark) (o : Option Way) → first_way a ≡ o → ways_of (ticks_first a ++ e (first_way a)) ≡ ways_of (e o)
ended-ways e a o is =
    let k : ways_of (e (first_way a)) ≡ ways_of (e o) = ap (λ q. ways_of (e q)) is in omega (arith, ways-append (ticks_first a) (e (first_way a)), first-ways a, k)

first-ticks : (a : List Mark) → ticks_of (ticks_first a) ≤ ticks_of a
first-ticks [] = omega arith
first-ticks (Tick l ∷ a) = omega (arith, first-ticks a)
first-ticks (Reach w ∷ a) = omega arith

first-here : (P : Way → Type 0) (a : List Mark) → AllWays P (ticks_first a)
first-here P [] = tt
first-here P (Tick l ∷ a) = first-here P a
first-here P (Reach w ∷ a) = tt

first-seen : (Q : Looked → Type 0) (a : List Mark) → AllTicks Q a → AllTicks Q (ticks_first a)
first-seen Q [] h = tt
first-seen Q (Tick l ∷ a) h = (h.0, first-seen Q a h.1)
first-seen Q (Reach w ∷ a) h = tt

first-at : (P : Way → Type 0) (a : List Mark) (w : Way) → AllWays P a → first_way a ≡ Some w → P w
first-at P [] w h e = absurd (none-some w e)
first-at P (Tick l ∷ a) w h e = first-at P a w h e
first-at P (Reach v ∷ a) w h e = subst P (same_Some v w e) h.0

-- ---- bounds

pub record Bounded (R : Place → Type 0) (Q : Looked → Type 0) (ways cost : ℕ) (marks : List Mark) : Type 0 where
  pub here : AllWays (λ v. R v.at) marks
  pub few : ways_of marks ≤ ways
  pub cheap : ticks_of marks ≤ cost
  pub seen : AllTicks Q marks

-- a part whose marks are so from each place of that kind
abbrev pub Keeps : (Place → Type 0) → (Looked → Type 0) → ℕ → ℕ → (Way → List Mark) → Type 0
Keeps R Q m c part = (v : Way) → R v.at → Bounded R Q m c (part v)

pub relaxed : {R : Place → Type 0} {Q : Looked → Type 0} {m n c d : ℕ} {a : List Mark} → Bounded R Q m c a → m ≤ n → c ≤ d → Bounded R Q n d a
relaxed t h k = record { here = t.here; few = omega (arith, t.few); cheap = omega (arith, t.cheap); seen = t.seen }

-- where looks are of another kind too
pub looked-under : {R : Place → Type 0} {P Q : Looked → Type 0} {m c : ℕ} {a : List Mark} → ((l : Looked) → P l → Q l) → Bounded R P m c a → Bounded R Q m c a
looked-under {P = P} {Q = Q} {a = a} f h = record { here = h.here; few = h.few; cheap = h.cheap; seen = seen-under P Q a f h.seen }

pub reached : {R : Place → Type 0} {Q : Looked → Type 0} (w : Way) → R w.at → Bounded R Q 1 0 (Reach w ∷ [])
reached w h = record { here = (h, tt); few = omega arith; cheap = omega arith; seen = tt }

pub nothing : {R : Place → Type 0} {Q : Looked → Type 0} {m c : ℕ} → Bounded R Q m c []
nothing = record { here = tt; few = omega arith; cheap = omega arith; seen = tt }

pub one-or : {R : Place → Type 0} {Q : Looked → Type 0} {m n c d : ℕ} {a b : List Mark} → Bounded R Q m c a → Bounded R Q n d b → Bounded R Q (m + n) (c + d) (a ++ b)
one-or {R = R} {Q = Q} {a = a} {b = b} h k = record {
  here = AllWays-append (λ v. R v.at) a b h.here k.here;
  few = omega (arith, ways-append a b, h.few, k.few);
  cheap = omega (arith, ticks-append a b, h.cheap, k.cheap);
  seen = seen-append Q a b h.seen k.seen;
}

-- of the ways more may be known
pub then-known : {R S : Place → Type 0} {Q : Looked → Type 0} {m n c d : ℕ} {a : List Mark} (P : Way → Type 0) (f : Way → List Mark) → AllWays P a → Bounded R Q m c a → ((v : Way) → P v → Bounded S Q n d (f v)) → Bounded S Q (m * n) (c + m * d) (followed a f)
then-known {R} {S} {Q} {m} {n} {c} {d} {a} P f p h k =
    let ways : ways_of a * n ≤ m * n = mul-le-mul_right n h.few in
    let cost : ways_of a * d ≤ m * d = mul-le-mul_right d h.few in
    record {
      here = AllWays-followed P (λ v. S v.at) a f p (λ v e. (k v e).here);
      few = omega (arith, followed-ways P n a f p (λ v e. (k v e).few));
      cheap = omega (arith, followed-ticks P d a f p (λ v e. (k v e).cheap), h.cheap);
      seen = seen-followed P Q a f p h.seen (λ v e. (k v e).seen);
    }

pub one-then : {R S : Place → Type 0} {Q : Looked → Type 0} {m n c d : ℕ} {a : List Mark} (f : Way → List Mark) → Bounded R Q m c a → ((v : Way) → R v.at → Bounded S Q n d (f v)) → Bounded S Q (m * n) (c + m * d) (followed a f)
one-then {R = R} f h k = then-known (λ v. R v.at) f h.here h k

-- a group: each way goes on where it stands
pub noting : {R : Place → Type 0} {Q : Looked → Type 0} {m c : ℕ} {a : List Mark} (f : Way → List Mark) → Bounded R Q m c a → Keeps R Q 1 0 f → Bounded R Q m c (followed a f)
noting f h k = relaxed (one-then f h k) (omega arith) (omega arith)

-- up to the first way, and what ends it
ended : {R S : Place → Type 0} {Q : Looked → Type 0} {m c : ℕ} {a b : List Mark} → Bounded R Q m c a → Bounded S Q 1 0 b → Bounded S Q 1 c (ticks_first a ++ b)
ended {S = S} {Q = Q} {c = c} {a = a} h k =
    let first : Bounded S Q 0 c (ticks_first a) = record {
      here = first-here (λ v. S v.at) a;
      few = omega (arith, first-ways a);
      cheap = omega (arith, first-ticks a, h.cheap);
      seen = first-seen Q a h.seen;
    } in
    relaxed (one-or first k) (omega arith) (omega arith)

look-ends : {R : Place → Type 0} {Q : Looked → Type 0} (negative : Bool) (w : Way) (o : Option Way) → R w.at → Bounded R Q 1 0 (look_end negative w o)
look-ends true w None h = reached w h
look-ends true w (Some v) h = nothing
look-ends false w None h = nothing
look-ends false w (Some v) h = reached (record v { at = w.at }) h

-- a look stays where it is, wherever its part goes
pub looking : {R S : Place → Type 0} {Q : Looked → Type 0} {m c : ℕ} {a : List Mark} (negative : Bool) (w : Way) → S w.at → Bounded R Q m c a → Bounded S Q 1 c (look negative w a)
looking {a = a} negative w h k = ended k (look-ends negative w (first_way a) h)

pub whole-way : {R : Place → Type 0} {Q : Looked → Type 0} {m c : ℕ} {a : List Mark} → Bounded R Q m c a → Bounded R Q 1 c (ticks_first a ++ reach_if (first_way a))
whole-way {R} {Q} {m} {c} {a} h =
    elim (first_way a) as (λ o. first_way a ≡ o → Bounded R Q 1 c (ticks_first a ++ reach_if o)) [
      | None ↦ λ f. ended h nothing
      | Some v ↦ λ f. ended h (reached v (first-at (λ u. R u.at) a v h.here f))
    ] refl

-- ---- counts

-- what holds of both branches
pub either : (P : List Mark → Type 0) (b : Bool) (y z : List Mark) → (b ≡ true → P y) → (b ≡ false → P z) → P (elim b as (λ _. List Mark) [ true ↦ y | false ↦ z ])
either P true y z h k = h refl
either P false y z h k = k refl

pub ordered : {R : Place → Type 0} {Q : Looked → Type 0} {m c : ℕ} {a : List Mark} (lazy : Bool) (w : Way) → R w.at → Bounded R Q m c a → Bounded R Q (m + 1) c (in_order lazy a (Reach w ∷ []))
ordered true w h k = relaxed (one-or (reached w h) k) (omega arith) (omega arith)
ordered false w h k = relaxed (one-or k (reached w h)) (omega arith) (omega arith)

chain-some : (m k : ℕ) → 1 ≤ chain_ways m k
chain-some m zero = omega arith
chain-some m (suc k) = omega arith

pub chain-ways-more : (m k : ℕ) → chain_ways m k ≤ chain_ways m (suc k)
chain-ways-more m zero = omega arith
chain-ways-more m (suc k) = let h : m * chain_ways m k ≤ m * chain_ways m (suc k) = mul-le-mul_left m (chain-ways-more m k) in omega arith

pub chain-cost-more : (m c k : ℕ) → chain_cost m c k ≤ chain_cost m c (suc k)
chain-cost-more m c zero = omega arith
chain-cost-more m c (suc k) = let h : m * chain_cost m c k ≤ m * chain_cost m c (suc k) = mul-le-mul_left m (chain-cost-more m c k) in omega arith

-- at most so many more turns from a place can take something
pub record CountsDown (R : Place → Type 0) (Left : ℕ → Option ℕ → Place → Type 0) : Type 0 where
  pub stop : (most : Option ℕ) (p q : Place) → R p → R q → Left 0 most p → is_spent most ≡ false → is_after q p ≡ true → ⊥
  pub less : (k : ℕ) (most : Option ℕ) (p q : Place) → R p → R q → Left (suc k) most p → is_after q p ≡ true → Left k (one_less most) q

module _ {R : Place → Type 0} {Q : Looked → Type 0} {m c : ℕ} (part : Way → List Mark) (lazy : Bool) (keeps : Keeps R Q m c part) (Left : ℕ → Option ℕ → Place → Type 0) (down : CountsDown R Left) where
  pub stopping : (k : ℕ) (w : Way) → R w.at → Bounded R Q (chain_ways m k) (chain_cost m c k) (Reach w ∷ [])
  stopping k w h = relaxed (reached w h) (chain-some m k) (omega arith)

  pub free : (left k : ℕ) (most : Option ℕ) (w : Way) → R w.at → Left k most w.at → Bounded R Q (chain_ways m k) (chain_cost m c k) (free_turns part lazy left most w)
  free zero k most w h room = stopping k w h
  free (suc left) zero most w h room =
      either (Bounded R Q 1 c) (is_spent most) (Reach w ∷ []) _ (λ _. stopping 0 w h)
      (λ unspent. relaxed (ordered lazy w h (one-then _ (keeps w h) (λ v i. either (Bounded R Q 0 0) (is_after v.at w.at) _ []
      (λ e. absurd (down.stop most w.at v.at h i room unspent e)) (λ _. nothing)))) (omega arith) (omega arith))
  free (suc left) (suc k) most w h room =
      either (Bounded R Q (chain_ways m (suc k)) (chain_cost m c (suc k))) (is_spent most) (Reach w ∷ []) _ (λ _. stopping (suc k) w h)
      (λ _. ordered lazy w h (one-then _ (keeps w h) (λ v i. either (Bounded R Q (chain_ways m k) (chain_cost m c k)) (is_after v.at w.at) _ []
      (λ e. free left k (one_less most) v i (down.less k most w.at v.at h i room e)) (λ _. nothing))))
