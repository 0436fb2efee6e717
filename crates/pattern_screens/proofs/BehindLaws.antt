-- In lines that aren't too long, where what follows a look behind fails, an attempt has no way, is within the budget,
-- and looks at the line and the one before.
use Rattle.pattern_screens.proofs.Common.{◌≡◌, refl, sym, ap, subst, arith, ℕ, zero, suc, ◌+◌, ◌*◌, ◌≤◌, Bool, true, false, length, List, [], ◌∷◌, ◌++◌, append-nil, Option, Some, None, IfSome, pos, ◌-ℤ◌, ◌||◌, ◌&&◌, not, nat_lt, if◌then◌else◌, and_parts, both_ways, not-true, nat_tests, ints, same_Some, none-some, suc-mul, mul-le-mul_right, Looked, Place, hull_of, one_line, Shape, one, seq, or, and, group, external, repeat, ahead, before, whole, answer_of, attempt, for_tree, in_order, is_spent, columns_back, ending_at, from_each, line_before, look, look_end, looking_at, starts_behind, tried_behind, Mark, Tick, Reach, first_way, followed, reach_if, ticks_first, visits, noted, noted_external, Context, Way, is_same_place, line_at, place, way_from, AllWays, behind_cost, from_starts, is_within, failing_cost, most_cost, FailBehind, key_numbered, key_of, tries_first, rest_tree, second_of, room_of, two_lines, IsInVain, is_dead, is_futile, still_of, Bound, Key}
use Rattle.pattern_items.specs.declared.item.Behind.TheVariants.{Any}
use Rattle.pattern_screens.specs.TwoLines.{length_before, AreWithin}
use Rattle.pattern_screens.proofs.Bounded.{AllTicks, Bounded, either, looking, looked-under, seen-append, seen-under, one-then, ticks-append, ticks_of, ways_of}
use Rattle.pattern_screens.proofs.InVain.{Begins, Within, in-vain-behind, in-vain-within}
use Rattle.pattern_screens.proofs.LinedParts.{Lined, LinedAt}
use Rattle.pattern_screens.proofs.RoomParts.{room-lined}
use Rattle.pattern_screens.proofs.Screened.{dead}
use Rattle.pattern_screens.proofs.Stands.{At, LooksAt}

-- ---- an atom that is tried first

begins-append : (P : Looked → Type 0) (a b : List Mark) → Begins P a → Begins P (a ++ b)
begins-append P [] b h = absurd h
begins-append P (Tick l ∷ a) b h = h
begins-append P (Reach w ∷ a) b h = absurd h

begins-followed : (P : Looked → Type 0) (a : List Mark) (f : Way → List Mark) → Begins P a → Begins P (followed a f)
begins-followed P [] f h = absurd h
begins-followed P (Tick l ∷ a) f h = h
begins-followed P (Reach w ∷ a) f h = absurd h

begins-first : (P : Looked → Type 0) (a b : List Mark) → Begins P a → Begins P (ticks_first a ++ b)
begins-first P [] b h = absurd h
begins-first P (Tick l ∷ a) b h = h
begins-first P (Reach w ∷ a) b h = absurd h

greedy : (lazy : Bool) (a b : List Mark) → not lazy ≡ true → Begins (λ l. Unit {0}) a → Begins (λ l. Unit {0}) (in_order lazy a b)
greedy true a b e h = absurd (cc)
greedy false a b e h = begins-append (λ l. Unit {0}) a b h

abbrev TriesFirst : List Mark → Type 0
TriesFirst marks = Begins (λ l. Unit {0}) marks

tick-begins : (x : Context) (node : Shape) → tries_first node ≡ true → (w : Way) → TriesFirst (visits x node w)
tick-begins x (one a) e w = tt
tick-begins x (seq a b) e w = begins-followed (λ l. Unit {0}) (visits x a w) (visits x b) (tick-begins x a e w)
tick-begins x (or a b) e w = begins-append (λ l. Unit {0}) (visits x a w) (visits x b w) (tick-begins x a e w)
tick-begins x (and a b) e w = begins-followed (λ l. Unit {0}) (look false w (visits x a w)) (visits x b) (begins-first (λ l. Unit {0}) (visits x a w) (look_end false w (first_way (visits x a w))) (tick-begins x a e w))
tick-begins x (group part number) e w = begins-followed (λ l. Unit {0}) (visits x part w) (noted number w.at) (tick-begins x part e w)
tick-begins x (external part number) e w = begins-followed (λ l. Unit {0}) (visits x part w) (noted_external number w.at) (tick-begins x part e w)
tick-begins x (repeat part zero most lazy) e w =
    let k = and_parts (not (is_spent most)) (not lazy && tries_first part) e in
    let l = and_parts (not lazy) (tries_first part) k.1 in
    either TriesFirst (is_spent most) (Reach w ∷ []) _ (λ f. absurd (both_ways (is_spent most) (not-true (is_spent most) k.0) f)) (λ _. greedy lazy _ (Reach w ∷ []) l.0 (begins-followed (λ l. Unit {0}) (visits x part w) _ (tick-begins x part l.1 w)))
tick-begins x (repeat part (suc least) most lazy) e w =
    let k = and_parts (not (is_spent most)) (tries_first part) e in
    either TriesFirst (is_spent most) (Reach w ∷ []) _ (λ f. absurd (both_ways (is_spent most) (not-true (is_spent most) k.0) f)) (λ _. begins-followed (λ l. Unit {0}) (visits x part w) _ (tick-begins x part k.1 w))
tick-begins x (ahead part negative) e w = begins-first (λ l. Unit {0}) (visits x part w) (look_end negative w (first_way (visits x part w))) (tick-begins x part e w)
tick-begins x (whole part) e w = begins-first (λ l. Unit {0}) (visits x part w) (reach_if (first_way (visits x part w))) (tick-begins x part e w)
tick-begins x _ e w = absurd (cc)

-- ---- what a look behind tries

-- at most so many ticks, each in the line or in the one before
abbrev Tried : ℕ → ℕ → List Mark → Type 0
Tried line cost marks = (ticks_of marks ≤ cost) × AllTicks (Within line) marks

tried-append : (line c d : ℕ) (a b : List Mark) → Tried line c a → Tried line d b → Tried line (c + d) (a ++ b)
tried-append line c d a b h k = (omega (arith, ticks-append a b, h.0, k.0), seen-append (Within line) a b h.1 k.1)

tried-here : (line here m c : ℕ) (x : Context) (marks : List Mark) → Within line (one_line (pos here)) → Lined x here m c marks → Tried line c marks
tried-here line here m c x marks h k = (k.cheap, seen-under (LooksAt here) (Within line) marks (λ l e. subst (Within line) (sym e) h) k.seen)

within-here : (line : ℕ) → Within line (one_line (pos line))
within-here line = record { low = grind (arith, ints); high = grind (arith, ints); unnumbered = refl }

within-next : (line : ℕ) → Within (suc line) (one_line (pos line))
within-next line = record { low = grind (arith, ints); high = grind (arith, ints); unnumbered = refl }

within-before : (line : ℕ) (l : Looked) → Within line l → Within line (hull_of l (one_line (pos line -ℤ pos 1)))
within-before line l h = record {
  low = grind (arith, ints, h.low);
  high = grind (arith, ints, h.high);
  unnumbered = λ i. h.unnumbered i || false;
}

-- the ticks of a look behind are those of its part, each at the line before too
tried-looking : (line c : ℕ) (p : Place) (a : List Mark) → Tried line c a → Tried line c (looking_at (one_line (pos line -ℤ pos 1)) (ending_at p a))
tried-looking line c p [] h = h
tried-looking line zero p (Tick l ∷ a) h = absurd (omega (arith, h.0))
tried-looking line (suc c) p (Tick l ∷ a) h =
    let k = tried-looking line c p a (omega (arith, h.0), h.1.1) in
    (omega (arith, k.0), (within-before line l h.1.0, k.1))
tried-looking line c p (Reach w ∷ a) h =
    either (λ m. Tried line c (looking_at (one_line (pos line -ℤ pos 1)) m)) (is_same_place w.at p) (Reach w ∷ ending_at p a) (ending_at p a)
    (λ _. tried-looking line c p a h) (λ _. tried-looking line c p a h)

module _ (x : Context) (part : Shape) (line d : ℕ) (w : Way) where
  abbrev tried-from : List Place → List Mark
  tried-from places = from_each (visits x part) w places

  -- the part stays in its line at each start, with so many ticks
  abbrev StaysOn : ℕ → Type 0
  StaysOn here = (col : ℕ) → col ≤ length (line_at x.text here) → Tried line d (visits x part (record w { at = place here col }))

  columns-tried : (here : ℕ) (rest : List Place) (e : ℕ) → Tried line e (tried-from rest) → StaysOn here → (col : ℕ) → col ≤ length (line_at x.text here) → Tried line (suc col * d + e) (tried-from (columns_back here col ++ rest))
  columns-tried here rest e k stays zero inside =
      let h = tried-append line d e (visits x part (record w { at = place here 0 })) (tried-from rest) (stays 0 inside) k in
      (omega (arith, h.0), h.1)
  columns-tried here rest e k stays (suc col) inside =
      let h = tried-append line d (suc col * d + e) (visits x part (record w { at = place here (suc col) })) (tried-from (columns_back here col ++ rest)) (stays (suc col) inside) (columns-tried here rest e k stays col (omega arith)) in
      (omega (arith, suc-mul (suc col) d, h.0), h.1)

  module _ (most : ℕ) (few : AreWithin most x.text line) (stays : (here : ℕ) → length (line_at x.text here) ≤ most → Within line (one_line (pos here)) → StaysOn here) where
    before-tried : (n : ℕ) → n ≡ line → Tried line ((length_before x.text n + 1) * d) (tried-from (line_before x.text n))
    before-tried zero e = (omega arith, tt)
    before-tried (suc n) e =
        let short : length (line_at x.text n) ≤ most = omega (arith, subst (λ l. AreWithin most x.text l) (sym e) few) in
        let h = columns-tried n [] 0 (omega arith, tt) (stays n short (subst (λ l. Within l (one_line (pos n))) e (within-next n))) (length (line_at x.text n)) (omega arith) in
        let t : Tried line (suc (length (line_at x.text n)) * d + 0) (tried-from (line_before x.text (suc n))) = subst (λ ps. Tried line (suc (length (line_at x.text n)) * d + 0) (tried-from ps)) (append-nil _) h in
        (omega (arith, t.0), t.1)

    starts-tried : (col : ℕ) → col ≤ length (line_at x.text line) → Tried line ((most + 2) * d) (tried-from (starts_behind x.text Any (place line col)))
    starts-tried col inside =
        let h = columns-tried line (line_before x.text line) ((length_before x.text line + 1) * d) (before-tried line refl) (stays line (omega (arith, few)) (within-here line)) col inside in
        let all : (suc col + (length_before x.text line + 1)) * d ≤ (most + 2) * d = mul-le-mul_right d (omega (arith, few)) in
        (omega (arith, all, h.0), h.1)

-- the first start is the place itself, and what is tried there first looks at both lines
first-both : (line : ℕ) (q : Place) (a b : List Mark) → TriesFirst a → AllTicks (LooksAt line) a → Begins (λ l. l ≡ two_lines line) (looking_at (one_line (pos line -ℤ pos 1)) (ending_at q (a ++ b)))
first-both line q [] b h s = absurd h
first-both line q (Tick m ∷ a) b h s = ap (λ l. hull_of l (one_line (pos line -ℤ pos 1))) s.0
first-both line q (Reach w ∷ a) b h s = absurd h

columns-first : (line col : ℕ) (a : List Place) → (rest : List Place) × (columns_back line col ++ a ≡ place line col ∷ rest)
columns-first line zero a = (a, refl)
columns-first line (suc col) a = (columns_back line col ++ a, refl)

anywhere : (a : List Mark) → AllWays (λ v. Unit {0}) a
anywhere [] = tt
anywhere (Tick l ∷ a) = anywhere a
anywhere (Reach w ∷ a) = (tt, anywhere a)

-- ---- the look, and what follows it

module _ (y : Context) (most line col : ℕ) (inside : col ≤ length (line_at y.text line)) (few : AreWithin most y.text line) (cost : ℕ) where
  abbrev start : Place
  start = place line col

  abbrev w : Way
  w = way_from start

  abbrev key : Key
  key = key_of y.sets (line_at y.text line) col

  abbrev InVain : Shape → Shape → Type 0
  InVain node rest = IsInVain start (cost + 1 * most_cost rest) true (answer_of (visits y node w))

  -- the screen of what follows fails
  abbrev FailsOn : Shape → Type 0
  FailsOn rest = is_dead (still_of y.sets y.ignore key rest) ≡ true

  look-vain : (part rest : Shape) (negative : Bool) → FailsOn rest → tries_first part ≡ true → (room : Bound) → ((here : ℕ) → length (line_at y.text here) ≤ most → LinedAt y here room.ways room.cost (visits y part)) → room.cost * (most + 2) ≡ cost → InVain (seq (before part negative Any) rest) rest
  look-vain part rest negative futile tries room lined is =
      let tried : List Mark = tried_behind y.text (visits y part) Any w in
      let stays : (here : ℕ) → length (line_at y.text here) ≤ most → Within line (one_line (pos here)) → StaysOn y part line room.cost w here = λ here short near c within.
      tried-here line here room.ways room.cost y (visits y part (record w { at = place here c })) near (lined here short (record w { at = place here c }) (record { on = refl; within = within })) in
      let all = tried-looking line ((most + 2) * room.cost) start _ (starts-tried y part line room.cost w most few stays col inside) in
      let behind : Bounded (λ p. Unit {0}) (Within line) (ways_of tried) cost tried = record { here = anywhere tried; few = omega arith; cheap = omega (arith, all.0, is); seen = all.1 } in
      let both : Begins (λ l. l ≡ two_lines line) tried =
      let first = columns-first line col (line_before y.text line) in
      subst (λ places. Begins (λ l. l ≡ two_lines line) (looking_at (one_line (pos line -ℤ pos 1)) (ending_at start (from_each (visits y part) w places)))) (sym first.1)
      (first-both line start (visits y part w) (from_each (visits y part) w first.0) (tick-begins y part tries w) (lined line (omega (arith, few)) w (record { on = refl; within = inside })).seen) in
      in-vain-behind start (visits y (seq (before part negative Any) rest) w)
      (begins-followed (λ l. l ≡ two_lines line) (look negative w tried) (visits y rest) (begins-first (λ l. l ≡ two_lines line) tried (look_end negative w (first_way tried)) both))
      (one-then {S = At start} (visits y rest) (looking {S = At start} negative w refl behind) (λ v at. looked-under (λ l e. subst (Within line) (sym e) (within-here line)) (dead y line col inside rest futile v at)))

  if-some : (b : Bool) (o : Option ℕ) → (if b then o else None) ≡ Some cost → (b ≡ true) × (o ≡ Some cost)
  if-some true o e = (refl, e)
  if-some false o e = absurd (none-some cost e)

  from-starts-is : (part : Shape) (o : Option Bound) → ((here : ℕ) → length (line_at y.text here) ≤ most → IfSome o (λ room. LinedAt y here room.ways room.cost (visits y part))) → from_starts most o ≡ Some cost →
      (room : Bound) × (((here : ℕ) → length (line_at y.text here) ≤ most → LinedAt y here room.ways room.cost (visits y part)) × (room.cost * (most + 2) ≡ cost))
  from-starts-is part None h e = absurd (none-some cost e)
  from-starts-is part (Some room) h e = (room, (h, same_Some (room.cost * (most + 2)) cost e))

  node-vain : (node : Shape) → FailsOn (second_of node) → behind_cost most node ≡ Some cost → InVain node (second_of node)
  node-vain (seq (before part negative Any) rest) futile e =
      let tries = if-some (tries_first part) (from_starts most (room_of most part)) e in
      let room = from-starts-is part (room_of most part) (λ here short. room-lined y here most short part) tries.1 in
      look-vain part rest negative futile tries.0 room.0 room.1.0 room.1.1
  node-vain _ futile e = absurd (none-some cost e)

within-is : (budget : ℕ) (o : Option ℕ) (rest : ℕ) → is_within budget o rest ≡ true → (cost : ℕ) × ((o ≡ Some cost) × (cost + rest ≤ budget))
within-is budget None rest e = absurd (cc)
within-is budget (Some cost) rest e =
    let h : cost + rest ≤ budget = grind (arith, nat_tests) in
    (cost, (refl, h))

pub behind-law : FailBehind
behind-law tree x budget most line col number few is e cheap =
    let b = and_parts (nat_lt number 777) (is_futile x.sets x.ignore (key_numbered number) (rest_tree tree)) e in
    let at-key : is_futile x.sets x.ignore (key_of x.sets (line_at x.text line) col) (rest_tree tree) ≡ true = subst (λ (k : Key). is_futile x.sets x.ignore k (rest_tree tree) ≡ true) is.is b.1 in
    let cost = within-is budget (behind_cost most tree.node) (failing_cost (rest_tree tree)) cheap in
    in-vain-within (place line col) (cost.0 + 1 * failing_cost (rest_tree tree)) budget true (attempt tree x (place line col)) (omega (arith, cost.1.1))
    (node-vain (for_tree tree x) most line col is.within few cost.0 tree.node at-key cost.1.0)
