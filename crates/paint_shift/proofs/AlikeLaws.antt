-- The laws of paintings that are alike.
use Rattle.std.proofs.Common.{◌≡◌, inl, inr, ◌<◌, ◌≤◌, ℕ, arith, Bool, true, false, List, [], ◌∷◌}
use Rattle.std.proofs.Common.{length, refl, sym, ap, ◌∙◌}
use Rattle.std.specs.Prelude.{Option, Some, None, pos, ◌+ℤ◌, ◌≤ℤ◌, slice_get}
use Rattle.std.specs.Prelude.{get_or, nat_lt}
use Rattle.std.specs.List.{AllByRecursion}
use Rattle.std.proofs.lemmas.Int.{ints}
use Rattle.std.proofs.lemmas.Bool.Decides.{nat_tests}
use Rattle.std.proofs.lemmas.Option.{slice_get_within, slice_get-get_or, get_or_from_slice_get}
use Rattle.std.proofs.lemmas.List.{get_or_past}
use Rattle.syn_base.specs.Agreement.{AgreeAt, seen_at, or_behind}
use Rattle.syn_base.specs.declared.looked.Looked.{Looked}
use Rattle.syn_base.specs.Looked.{hull_of, one_line, moved_by}
use Rattle.syn_base.proofs.HullLaws.{either_left, either_right, hull_moved}
use Rattle.paint_rules.specs.Painted.{Painted, Done, Refused, looked_both, looked_first, ◌>>=◌}
use Rattle.paint_rules.specs.Painted.{done, looks_at, refused_as, first_found}
use Rattle.paint_shift.proofs.Shift.{Two, IsMovedLine, shift, Agrees, AgreesOn, moved_looked}
use Rattle.paint_shift.proofs.Shift.{Follows, Alike, SameLine, OnBoth}

absent_by : (t : List (List ℕ)) (k : ℕ) → slice_get t k ≡ None → (b : Bool) →
    nat_lt k (length t) ≡ b → length t ≤ k
absent_by t k e false f = grind (arith, nat_tests)
absent_by t k e true f =
    let l : k < length t = grind (arith, nat_tests) in
    let g : slice_get t k ≡ Some (get_or t k []) = slice_get-get_or t k [] l in
    absurd (cc)

absent : (t : List (List ℕ)) (k : ℕ) → slice_get t k ≡ None → length t ≤ k
absent t k e = absent_by t k e (nat_lt k (length t)) refl

low_least : (a b : Looked) → ((hull_of a b).low ≤ℤ a.low) × ((hull_of a b).low ≤ℤ b.low)
low_least a b = (grind (arith, ints), grind (arith, ints))

high_most : (a b : Looked) → (a.high ≤ℤ (hull_of a b).high) × (b.high ≤ℤ (hull_of a b).high)
high_most a b = (grind (arith, ints), grind (arith, ints))

module _ (two : Two) where
  pub covered : (a b : Looked) → Agrees two (hull_of a b) → Agrees two a × Agrees two b
  covered a b ok =
      let l = low_least a b in
      let h = high_most a b in (
        record {
          unmoved = λ n. ok.unmoved (either_left a.numbered b.numbered n);
          each_line =
              (λ k x y. ok.each_line k (omega (arith, ints, l.0)) (omega (arith, ints, h.0)));
        },
        record {
          unmoved = λ n. ok.unmoved (either_right a.numbered b.numbered n);
          each_line =
              (λ k x y. ok.each_line k (omega (arith, ints, l.1)) (omega (arith, ints, h.1)));
        },
      )

  pub covered_both : (j k : Option Looked) → AgreesOn two (looked_both j k) →
      AgreesOn two j × AgreesOn two k
  covered_both None k ok = (tt, ok)
  covered_both (Some a) None ok = (ok, tt)
  covered_both (Some a) (Some b) ok = covered a b ok

  pub moved_both : (j k : Option Looked) →
      looked_both (moved_looked two j) (moved_looked two k) ≡ moved_looked two (looked_both j k)
  moved_both None k = refl
  moved_both (Some a) None = refl
  moved_both (Some a) (Some b) = ap (λ (l : Looked). Some l) (hull_moved a b (shift two))

  -- the second half, where the texts agree on what the first half looked at
  then_follows : {E C D : Type 0} (S : C → D → Type 0) (k : Option Looked) (x : Painted E C)
      (y : Painted E D) →
      (AgreesOn two k →
      (z : Painted E D) × (y ≡ looked_first (moved_looked two k) z) × Follows two S x z) →
      Follows two S (looked_first k x) y
  then_follows S k (Done c j) y h = λ all.
      let both = covered_both k j all in
      let r = h both.0 in
      let q = r.2 both.1 in (
        q.0,
        r.1 ∙ (ap (λ z. looked_first (moved_looked two k) z) q.1
            ∙ ap (λ (l : Option Looked). Done q.0 l) (moved_both k j)),
        q.2,
      )
  then_follows S k (Refused c j) y h = λ all.
      let both = covered_both k j all in
      let r = h both.0 in
      r.1 ∙ (ap (λ z. looked_first (moved_looked two k) z) (r.2 both.1)
      ∙ ap (λ (l : Option Looked). Refused c l) (moved_both k j))

  bind_follows : {E A B C D : Type 0} (R : A → B → Type 0) (S : C → D → Type 0) (m : Painted E A)
      (n : Painted E B) (f : A → Painted E C) (g : B → Painted E D) →
      Follows two R m n → ((a : A) (b : B) → R a b → Alike two S (f a) (g b)) →
      Follows two S (m >>= f) (n >>= g)
  bind_follows R S (Done a k) n f g h next =
      then_follows S k (f a) (n >>= g)
      (λ ok. let r = h ok in (g r.0, ap (λ z. z >>= g) r.1, (next a r.0 r.2).follows))
  bind_follows R S (Refused c k) n f g h next = λ ok. ap (λ z. z >>= g) (h ok)

  pub bind_alike : {E A B C D : Type 0} {R : A → B → Type 0} {S : C → D → Type 0} {m : Painted E A}
      {n : Painted E B} {f : A → Painted E C} {g : B → Painted E D} →
      Alike two R m n → ((a : A) (b : B) → R a b → Alike two S (f a) (g b)) →
      Alike two S (m >>= f) (n >>= g)
  bind_alike {R = R} {S = S} {m = m} {n = n} {f = f} {g = g} h next =
      record { follows = bind_follows R S m n f g h.follows next }

  -- where the values are equal
  pub bind_same : {E A C D : Type 0} {S : C → D → Type 0} {m n : Painted E A} {f : A → Painted E C}
      {g : A → Painted E D} →
      Alike two (λ a b. b ≡ a) m n → ((a : A) → Alike two S (f a) (g a)) →
      Alike two S (m >>= f) (n >>= g)
  bind_same {f = f} {g = g} h next = bind_alike {f = f} {g = g} h (λ a b e. rw e (next a))

  pub done_alike : {E A B : Type 0} (R : A → B → Type 0) (a : A) (b : B) → R a b →
      Alike two {E = E} R (done a) (done b)
  done_alike R a b h = record { follows = λ ok. (b, refl, h) }

  weaker_follows : {E A B : Type 0} (R S : A → B → Type 0) (m : Painted E A) (n : Painted E B) →
      ((a : A) (b : B) → R a b → S a b) → Follows two R m n → Follows two S m n
  weaker_follows R S (Done a k) n w h = λ ok. let r = h ok in (r.0, r.1, w a r.0 r.2)
  weaker_follows R S (Refused c k) n w h = h

  pub weaker : {E A B : Type 0} (R S : A → B → Type 0) {m : Painted E A} {n : Painted E B} →
      ((a : A) (b : B) → R a b → S a b) → Alike two R m n → Alike two S m n
  weaker R S {m = m} {n = n} w h = record { follows = weaker_follows R S m n w h.follows }

  -- the same test on both sides
  pub by_test : {E A B : Type 0} {R : A → B → Type 0} (b d : Bool) {m m' : Painted E A}
      {n n' : Painted E B} → d ≡ b →
      (b ≡ true → Alike two R m n) → (b ≡ false → Alike two R m' n') →
      Alike two R (elim b as (λ _. Painted E A) [ true ↦ m | false ↦ m' ])
      (elim d as (λ _. Painted E B) [ true ↦ n | false ↦ n' ])
  by_test true true e h k = h refl
  by_test false false e h k = k refl
  by_test true false e h k = absurd (cc)
  by_test false true e h k = absurd (cc)

  -- the same choice on both sides
  pub by_option : {E A B C D : Type 0} {R : A → B → Type 0} {S : C → D → Type 0} (o : Option A)
      (r : Option B) {m : Painted E C} {f : A → Painted E C} {n : Painted E D}
      {g : B → Painted E D} → OnBoth R o r →
      Alike two S m n → ((a : A) (b : B) → R a b → Alike two S (f a) (g b)) →
      Alike two S (elim o as (λ _. Painted E C) [ None ↦ m | Some a ↦ f a ])
      (elim r as (λ _. Painted E D) [ None ↦ n | Some b ↦ g b ])
  by_option None None h none some = none
  by_option (Some a) (Some b) h none some = some a b h
  by_option None (Some b) h none some = absurd h
  by_option (Some a) None h none some = absurd h

  pub first_found_alike : {E X A B : Type 0} (R : A → B → Type 0) (P : X → Type 0)
      (f : X → Painted E (Option A)) (g : X → Painted E (Option B)) (xs : List X) →
      AllByRecursion P xs →
      ((x : X) → P x → Alike two (OnBoth R) (f x) (g x)) →
      Alike two (OnBoth R) (first_found f xs) (first_found g xs)
  first_found_alike R P f g [] all h = done_alike (OnBoth R) None None tt
  first_found_alike R P f g (x ∷ xs) all h =
      bind_alike (h x all.0)
      (λ o r both. by_option {S = OnBoth R} o r both (first_found_alike R P f g xs all.1 h)
      (λ a b k. done_alike (OnBoth R) (Some a) (Some b) k))

  refused_follows : {D E A B : Type 0} (R : A → B → Type 0) (f : D → E) (m : Painted D A)
      (n : Painted D B) → Follows two R m n → Follows two R (refused_as f m) (refused_as f n)
  refused_follows R f (Done a k) n h = λ ok. let r = h ok in (r.0, ap (refused_as f) r.1, r.2)
  refused_follows R f (Refused c k) n h = λ ok. ap (refused_as f) (h ok)

  pub refused_alike : {D E A B : Type 0} {R : A → B → Type 0} (f : D → E) {m : Painted D A}
      {n : Painted D B} → Alike two R m n → Alike two R (refused_as f m) (refused_as f n)
  refused_alike {R = R} f {m = m} {n = n} h = record { follows = refused_follows R f m n h.follows }

  moved_line : (k j : ℕ) → IsMovedLine two k j → pos j ≡ pos k +ℤ shift two
  moved_line k j h = omega (arith, ints)

  self_low : (k : ℕ) → pos k ≤ℤ pos k
  self_low k = omega (arith, ints)

  pub one_line_moved : (k j : ℕ) → IsMovedLine two k j →
      one_line (pos j) ≡ moved_by (one_line (pos k)) (shift two)
  one_line_moved k j h = λ i. record {
    low = moved_line k j h i;
    high = moved_line k j h i;
    numbered = false;
  }

  same_by : (k j : ℕ) → IsMovedLine two k j → (o r : Option (List ℕ)) → slice_get two.one k ≡ o →
      slice_get two.other j ≡ r →
      or_behind r ≡ or_behind o → SameLine two k j
  same_by k j m (Some a) (Some b) e f same =
      let chars : b ≡ a = cc in
      record {
        moved = m;
        chars = get_or_from_slice_get two.other j b [] f
            ∙ (chars ∙ sym (get_or_from_slice_get two.one k a [] e));
        here = inl (slice_get_within two.one k a e, slice_get_within two.other j b f);
      }
  same_by k j m None None e f same =
      let on : length two.one ≤ k = absent two.one k e in
      let there : length two.other ≤ j = absent two.other j f in
      record {
        moved = m;
        chars =
            get_or_past two.other j [] there ∙ sym (get_or_past two.one k [] on);
        here =
            inr (on, there);
      }
  same_by k j m (Some a) None e f same = absurd (cc)
  same_by k j m None (Some b) e f same = absurd (cc)

  pub same_line : (k j : ℕ) → IsMovedLine two k j → AgreeAt two.one two.other (shift two) (pos k) →
      SameLine two k j
  same_line k j m at =
      let seen : seen_at two.other (pos j) ≡ seen_at two.one (pos k) =
      ap (seen_at two.other) (moved_line k j m) ∙ at.same in
      same_by k j m (slice_get two.one k) (slice_get two.other j) refl refl seen

  -- a look at a line shows it
  pub looks_alike : {E : Type 0} (k j : ℕ) → IsMovedLine two k j →
      Alike two {E = E} (λ _ _. SameLine two k j) (looks_at (one_line (pos k)))
      (looks_at (one_line (pos j)))
  looks_alike k j m = record {
    follows = λ ok. (
      tt,
      ap (λ (l : Looked). Done tt (Some l)) (one_line_moved k j m),
      same_line k j m (ok.each_line (pos k) (self_low k) (self_low k)),
    );
  }

-- paintings that are alike, with equal values
abbrev pub Same : (two : Two) {E A : Type 0} → Painted E A → Painted E A → Type 0
Same two m n = Alike two (λ a b. b ≡ a) m n

module _ (two : Two) where
  pub done_same : {E A : Type 0} (a : A) → Same two {E = E} (done a) (done a)
  done_same a = done_alike two (λ a b. b ≡ a) a a refl

  pub done_equal : {E A : Type 0} (a b : A) → b ≡ a → Same two {E = E} (done a) (done b)
  done_equal a b e = done_alike two (λ a b. b ≡ a) a b e

  pub by_equal : {E A C D : Type 0} {S : C → D → Type 0} (o r : Option A) {m : Painted E C}
      {f : A → Painted E C} {n : Painted E D} {g : A → Painted E D} → r ≡ o →
      Alike two S m n → ((a : A) → Alike two S (f a) (g a)) →
      Alike two S (elim o as (λ _. Painted E C) [ None ↦ m | Some a ↦ f a ])
      (elim r as (λ _. Painted E D) [ None ↦ n | Some b ↦ g b ])
  by_equal None None e none some = none
  by_equal (Some a) (Some b) {g = g} e none some = let f : b ≡ a = cc in rw f (some a)
  by_equal None (Some b) e none some = absurd (cc)
  by_equal (Some a) None e none some = absurd (cc)
