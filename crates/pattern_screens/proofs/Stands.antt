-- Marks that take nothing: all their ways stand at one place, and each tick looks at its line.
use Rattle.pattern_screens.proofs.Common.{◌≡◌, ℕ, zero, suc, ◌+◌, ◌*◌, ◌<◌, ◌≤◌, inl, inr, Bool, true, false, List, [], ◌∷◌, ◌++◌, refl, sym, ap, ◌∙◌, arith, subst, Option, Some, None, IfSome, pos, if◌then◌else◌, and_cases, and_parts, both_ways, or_cases, or_parts, not-true, not-false, nat_tests, Looked, Place, one_line, Text, Way, is_after, Mark, Reach, followed, ticks_first, first_way, reach_if, free_turns, in_order, is_spent, less_by, places_behind, turns, look, look_end, one_way, turn_bound, Bound, Still, both, mapped, one_by_one, or_maybe, or_still, still, still_count, still_look, then_still, turned}
use Rattle.pattern_screens.proofs.Bounded.{Bounded, CountsDown, Keeps, either, ended-ways, first-none, first-some, followed-none, followed-some, followed-ways, free, looking, one-or, reached, relaxed, one-then, ways-append, ways_of, whole-way}

abbrev pub LooksAt : ℕ → Looked → Type 0
LooksAt line l = l ≡ one_line (pos line)

abbrev pub At : Place → Place → Type 0
At p q = q ≡ p

pub record Stands (p : Place) (s : Still) (ways cost : ℕ) (marks : List Mark) : Type 0 where
  pub bounded : Bounded (At p) (LooksAt p.line) ways cost marks
  pub none : s.reaches ≡ false → ways_of marks ≡ 0
  pub some : s.surely ≡ true → 0 < ways_of marks

pub reach-stands : {p : Place} (w : Way) → w.at ≡ p → Stands p (still true) 1 0 (Reach w ∷ [])
reach-stands w e = record { bounded = reached w e; none = λ e. absurd (cc); some = λ _. omega arith }

-- ---- one or another, and one behind another

or-stands : {p : Place} {s t : Still} {m n c d : ℕ} {a b : List Mark} → Stands p s m c a → Stands p t n d b → Stands p (or_still s t) (m + n) (c + d) (a ++ b)
or-stands {p} {s} {t} {m} {n} {c} {d} {a} {b} h k = record {
  bounded = one-or h.bounded k.bounded;
  none = λ e. let f = or_parts s.reaches t.reaches e in omega (arith, ways-append a b, h.none f.0, k.none f.1);
  some = λ e. elim (or_cases s.surely t.surely e) [
    | inl f ↦ omega (arith, ways-append a b, h.some f)
    | inr f ↦ omega (arith, ways-append a b, k.some f)
  ];
}

then-stands : {p : Place} {s t : Still} {m n c d : ℕ} {a : List Mark} (f : Way → List Mark) → Stands p s m c a → ((v : Way) → v.at ≡ p → Stands p t n d (f v)) → Stands p (then_still s t) (m * n) (c + m * d) (followed a f)
then-stands {p} {s} {t} {m} {n} {c} {d} {a} f h k = record {
  bounded = one-then f h.bounded (λ v e. (k v e).bounded);
  none = λ e. elim (and_cases s.reaches t.reaches e) [
    | inl g ↦ ap ways_of (followed-none a f (h.none g)) ∙ h.none g
    | inr g ↦ omega (arith, followed-ways (λ v. v.at ≡ p) 0 a f h.bounded.here (λ v e. let z : ways_of (f v) ≡ 0 = (k v e).none g in omega arith))
  ];
  some = λ e. let g = and_parts s.surely t.surely e in followed-some (λ v. v.at ≡ p) a f h.bounded.here (λ v e. (k v e).some g.1) (h.some g.0);
}

-- behind a part without a way nothing is tried
dead-stands : {p : Place} {s : Still} {m c : ℕ} {a : List Mark} (n d : ℕ) (f : Way → List Mark) → s.reaches ≡ false → Stands p s m c a → Stands p s (m * n) (c + m * d) (followed a f)
dead-stands {p} {s} {m} {c} {a} n d f dead h =
    let z : ways_of a ≡ 0 = h.none dead in
    let b = h.bounded in
    subst (λ r. Stands p s (m * n) (c + m * d) r) (sym (followed-none a f z)) (record {
      bounded = record { here = b.here; few = omega arith; cheap = omega (arith, b.cheap); seen = b.seen };
      none = h.none;
      some = h.some;
    })

-- what follows reaches a way for sure
pub on-stands : {p : Place} {s : Still} {m c d e : ℕ} {a : List Mark} (f : Way → List Mark) → Stands p s m c a → ((v : Way) → v.at ≡ p → Stands p (still true) 1 d (f v)) → c + m * d ≤ e → Stands p s m e (followed a f)
on-stands {p} {a = a} f h k fits = record {
  bounded = relaxed (one-then f h.bounded (λ v e. (k v e).bounded)) (omega arith) fits;
  none = λ e. ap ways_of (followed-none a f (h.none e)) ∙ h.none e;
  some = λ e. followed-some (λ v. v.at ≡ p) a f h.bounded.here (λ v e. (k v e).some refl) (h.some e);
}

-- ---- looks

look-stands : {p : Place} {s : Still} {m c : ℕ} {a : List Mark} (w : Way) → w.at ≡ p → Stands p s m c a → Stands p s 1 c (look false w a)
look-stands {a = a} w e h = record {
  bounded = looking false w e h.bounded;
  none = λ g. ended-ways (look_end false w) a None (first-none a (h.none g));
  some = λ g. let v = first-some a (h.some g) in omega (arith, ended-ways (look_end false w) a (Some v.0) v.1);
}

turned-stands : {p : Place} {s : Still} {m c : ℕ} {a : List Mark} (w : Way) → w.at ≡ p → Stands p s m c a → Stands p (turned s) 1 c (look true w a)
turned-stands {s = s} {a = a} w e h = record {
  bounded = looking true w e h.bounded;
  none = λ g. let v = first-some a (h.some (not-false s.surely g)) in ended-ways (look_end true w) a (Some v.0) v.1;
  some = λ g. omega (arith, ended-ways (look_end true w) a None (first-none a (h.none (not-true s.reaches g))));
}

pub whole-stands : {p : Place} {s : Still} {m c : ℕ} {a : List Mark} → Stands p s m c a → Stands p s 1 c (ticks_first a ++ reach_if (first_way a))
whole-stands {a = a} h = record {
  bounded = whole-way h.bounded;
  none = λ g. ended-ways reach_if a None (first-none a (h.none g));
  some = λ g. let v = first-some a (h.some g) in omega (arith, ended-ways reach_if a (Some v.0) v.1);
}

-- ---- counts

not-after : (p q r : Place) → q ≡ p → r ≡ p → is_after q r ≡ true → ⊥
not-after p q r e f h = let same : is_after p p ≡ true = (λ i. is_after (sym e i) (sym f i)) ∙ h in absurd (grind (arith, nat_tests, same))

-- no turn that takes nothing is followed by another
still-down : (p : Place) → CountsDown (At p) (λ k most q. k ≡ 0)
still-down p = record {
  stop = λ most q r e f z u after. not-after p r q f e after;
  less = λ k most q r e f z after. absurd (not-after p r q f e after);
}

order-some : (lazy : Bool) (a : List Mark) (w : Way) → 0 < ways_of (in_order lazy a (Reach w ∷ []))
order-some true a w = omega arith
order-some false a w = omega (arith, ways-append a (Reach w ∷ []))

module _ {p : Place} {s : Still} {m c : ℕ} (text : Text) (part : Way → List Mark) (lazy : Bool) (h : (v : Way) → v.at ≡ p → Stands p s m c (part v)) where
  keeps : Keeps (At p) (LooksAt p.line) m c part
  keeps v e = (h v e).bounded

  -- from the least count on
  free-stands : (left : ℕ) (most : Option ℕ) (w : Way) → w.at ≡ p → Stands p (still true) 1 c (free_turns part lazy (suc left) most w)
  free-stands left most w e = record {
    bounded = free part lazy keeps (λ k most q. k ≡ 0) (still-down p) (suc left) 0 most w e refl;
    none = λ e. absurd (cc);
    some = λ _. either (λ a. 0 < ways_of a) (is_spent most) (Reach w ∷ []) _ (λ _. omega arith) (λ _. order-some lazy _ w);
  }

  forced-stands : (least : ℕ) (most : Option ℕ) (w : Way) → w.at ≡ p → is_spent most ≡ false → Stands p s m (c + m * c) (turns text part lazy (suc least) most w)
  forced-stands least most w e unspent =
      either (Stands p s m (c + m * c)) (is_spent most) (Reach w ∷ []) _ (λ f. absurd (both_ways (is_spent most) unspent f))
      (λ _. on-stands _ (h w e) (λ v k. either (Stands p (still true) 1 c) (is_after v.at w.at) _ _
      (λ after. absurd (not-after p v.at w.at k e after)) (λ _. free-stands (places_behind text v.at) (less_by most (suc least)) v k)) (omega arith))

-- at its greatest count it stops
spent-stands : {p : Place} (text : Text) (part : Way → List Mark) (lazy : Bool) (least : ℕ) (most : Option ℕ) (w : Way) → w.at ≡ p → is_spent most ≡ true → Stands p (still true) 1 0 (turns text part lazy least most w)
spent-stands {p} text part lazy zero most w e spent =
    either (Stands p (still true) 1 0) (is_spent most) (Reach w ∷ []) _ (λ _. reach-stands w e) (λ f. absurd (both_ways (is_spent most) f spent))
spent-stands {p} text part lazy (suc least) most w e spent =
    either (Stands p (still true) 1 0) (is_spent most) (Reach w ∷ []) _ (λ _. reach-stands w e) (λ f. absurd (both_ways (is_spent most) f spent))

-- ---- where something is known

-- the marks do what is known, if anything is
pub record Told (p : Place) (o : Option Still) (ways cost : ℕ) (marks : List Mark) : Type 0 where
  pub holds : IfSome o (λ s. Stands p s ways cost marks)

pub untold : {p : Place} {m c : ℕ} {a : List Mark} → Told p None m c a
untold = record { holds = tt }

pub told : {p : Place} {s : Still} {m c : ℕ} {a : List Mark} → Stands p s m c a → Told p (Some s) m c a
told h = record { holds = h }

pub told-or : {p : Place} {m n c d : ℕ} {a b : List Mark} (o r : Option Still) → Told p o m c a → Told p r n d b → Told p (both or_still o r) (m + n) (c + d) (a ++ b)
told-or None r h k = untold
told-or (Some s) None h k = untold
told-or (Some s) (Some t) h k = told (or-stands h.holds k.holds)

told-turn : {p : Place} {m n c d : ℕ} {a : List Mark} (f : Way → List Mark) (s : Still) (r : Option Still) (reaches : Bool) → s.reaches ≡ reaches → Stands p s m c a → ((v : Way) → v.at ≡ p → Told p r n d (f v)) →
    Told p (if reaches then mapped (then_still s) r else Some s) (m * n) (c + m * d) (followed a f)
told-turn f s None true e h k = untold
told-turn f s (Some t) true e h k = told (then-stands f h (λ v e. (k v e).holds))
told-turn {n = n} {d = d} f s r false e h k = told (dead-stands n d f e h)

pub told-then : {p : Place} {m n c d : ℕ} {a : List Mark} (f : Way → List Mark) (o r : Option Still) → Told p o m c a → ((v : Way) → v.at ≡ p → Told p r n d (f v)) → Told p (one_by_one o r) (m * n) (c + m * d) (followed a f)
told-then f None r h k = untold
told-then f (Some s) r h k = told-turn f s r s.reaches refl h.holds k

pub told-look : {p : Place} {m c : ℕ} {a : List Mark} (negative : Bool) (o : Option Still) (w : Way) → w.at ≡ p → Told p o m c a → Told p (still_look negative o) 1 c (look negative w a)
told-look true None w e h = untold
told-look true (Some s) w e h = told (turned-stands w e h.holds)
told-look false None w e h = untold
told-look false (Some s) w e h = told (look-stands w e h.holds)

-- a look whose part stays in its line has these bounds, whatever is known of it
pub told-maybe : {p : Place} {m n c d : ℕ} {a : List Mark} (o : Option Still) → Bounded (At p) (LooksAt p.line) m c a → Told p o n d a → Told p (or_maybe true o) m c a
told-maybe None b h = told (record { bounded = b; none = λ e. absurd (cc); some = λ e. absurd (cc) })
told-maybe (Some s) b h = told (record { bounded = b; none = h.holds.none; some = h.holds.some })

pub no-maybe : {p : Place} {m c : ℕ} {a : List Mark} (o : Option Still) → Told p o m c a → Told p (or_maybe false o) m c a
no-maybe None h = untold
no-maybe (Some s) h = h

pub told-count : {p : Place} {m c : ℕ} (text : Text) (part : Way → List Mark) (lazy spent : Bool) (least : ℕ) (most : Option ℕ) (o : Option Still) (w : Way) → is_spent most ≡ spent → w.at ≡ p → ((v : Way) → v.at ≡ p → Told p o m c (part v)) →
    let b : Bound = (if spent then one_way else turn_bound least (record { ways = m; cost = c })) in
    Told p (if spent then Some (still true) else still_count least o) b.ways b.cost (turns text part lazy least most w)
told-count text part lazy true least most o w is e h = told (spent-stands text part lazy least most w e is)
told-count text part lazy false zero most None w is e h = untold
told-count text part lazy false zero most (Some s) w is e h = told (free-stands text part lazy (λ v k. (h v k).holds) (places_behind text w.at) most w e)
told-count text part lazy false (suc least) most None w is e h = untold
told-count text part lazy false (suc least) most (Some s) w is e h = told (forced-stands text part lazy (λ v k. (h v k).holds) least most w e is)
