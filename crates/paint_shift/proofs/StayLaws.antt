-- What looks at lines of a text alone, the one before its first and the one behind its last among
-- them.
use Rattle.std.proofs.Common.{◌≤◌, ℕ, arith, Bool, true, false, List, [], ◌∷◌, length}
use Rattle.std.specs.Prelude.{Option, Some, None, ℤ, pos, negsuc, ◌≤ℤ◌}
use Rattle.std.specs.List.{AllByRecursion}
use Rattle.std.proofs.lemmas.Int.{ints}
use Rattle.syn_base.specs.declared.looked.Looked.{Looked}
use Rattle.syn_base.specs.Looked.{hull_of, one_line, lesser, greater}
use Rattle.match_rules.specs.Ways.{Text}
use Rattle.paint_rules.specs.Painted.{Painted, Done, Refused, looked_both, looked_first, ◌>>=◌}
use Rattle.paint_rules.specs.Painted.{done, looks_at, refused_as, first_found}

pub record IsOn (t : Text) (l : Looked) : Type 0 where
  pub from : negsuc 0 ≤ℤ l.low
  pub to : l.high ≤ℤ pos (length t)

abbrev pub AreOn : Text → Option Looked → Type 0
AreOn t None = Unit {0}
AreOn t (Some l) = IsOn t l

abbrev pub OfSome : {A : Type 0} → (A → Type 0) → Option A → Type 0
OfSome P None = Unit {0}
OfSome P (Some a) = P a

abbrev pub Any : {A : Type 0} → A → Type 0
Any a = Unit {0}

abbrev pub StaysBy : (t : Text) {E A : Type 0} → (A → Type 0) → Painted E A → Type 0
StaysBy t P (Done a k) = AreOn t k × P a
StaysBy t P (Refused c k) = AreOn t k

-- it looks at such lines, and this holds of its value, if it comes to one
pub record Stays (t : Text) {E A : Type 0} (P : A → Type 0) (p : Painted E A) : Type 0 where
  pub stays : StaysBy t P p

low_on : (a b c : ℤ) → c ≤ℤ a → c ≤ℤ b → c ≤ℤ lesser a b
low_on a b c h k = grind (arith, ints)

high_on : (a b c : ℤ) → a ≤ℤ c → b ≤ℤ c → greater a b ≤ℤ c
high_on a b c h k = grind (arith, ints)

module _ (t : Text) where
  hull_on : (a b : Looked) → IsOn t a → IsOn t b → IsOn t (hull_of a b)
  hull_on a b h k = record {
    from = low_on a.low b.low (negsuc 0) h.from k.from;
    to = high_on a.high b.high (pos (length t)) h.to k.to;
  }

  pub both_on : (j k : Option Looked) → AreOn t j → AreOn t k → AreOn t (looked_both j k)
  both_on None k h g = g
  both_on (Some a) None h g = h
  both_on (Some a) (Some b) h g = hull_on a b h g

  first_stays : {E A : Type 0} (P : A → Type 0) (k : Option Looked) (p : Painted E A) → AreOn t k →
      StaysBy t P p → StaysBy t P (looked_first k p)
  first_stays P k (Done a j) h s = (both_on k j h s.0, s.1)
  first_stays P k (Refused c j) h s = both_on k j h s

  then_by : {E A B : Type 0} (P : A → Type 0) (Q : B → Type 0) (p : Painted E A)
      (f : A → Painted E B) → StaysBy t P p → ((a : A) → P a → Stays t Q (f a)) →
      StaysBy t Q (p >>= f)
  then_by P Q (Done a k) f s g = first_stays Q k (f a) s.0 (g a s.1).stays
  then_by P Q (Refused c k) f s g = s

  pub then_stays : {E A B : Type 0} {P : A → Type 0} {Q : B → Type 0} {p : Painted E A}
      {f : A → Painted E B} → Stays t P p → ((a : A) → P a → Stays t Q (f a)) → Stays t Q (p >>= f)
  then_stays {P = P} {Q = Q} {p = p} {f = f} s g = record { stays = then_by P Q p f s.stays g }

  pub done_stays : {E A : Type 0} (P : A → Type 0) (a : A) → P a → Stays t {E = E} P (done a)
  done_stays P a h = record { stays = (tt, h) }

  pub looks_stay : {E : Type 0} (l : ℕ) → l ≤ length t →
      Stays t {E = E} Any (looks_at (one_line (pos l)))
  looks_stay l h =
      record { stays = (record { from = omega (arith, ints); to = omega (arith, ints, h) }, tt) }

  pub test_stays : {E A : Type 0} {P : A → Type 0} (b : Bool) {p q : Painted E A} → Stays t P p →
      Stays t P q →
      Stays t P (elim b as (λ _. Painted E A) [ true ↦ p | false ↦ q ])
  test_stays true h k = h
  test_stays false h k = k

  pub choice_stays : {E A B : Type 0} {P : A → Type 0} {Q : B → Type 0} (o : Option A)
      {p : Painted E B} {f : A → Painted E B} → OfSome P o →
      Stays t Q p → ((a : A) → P a → Stays t Q (f a)) →
      Stays t Q (elim o as (λ _. Painted E B) [ None ↦ p | Some a ↦ f a ])
  choice_stays None h k g = k
  choice_stays (Some a) h k g = g a h

  pub found_stays : {E X A : Type 0} (Q : A → Type 0) (P : X → Type 0)
      (f : X → Painted E (Option A)) (xs : List X) → AllByRecursion P xs →
      ((x : X) → P x → Stays t (OfSome Q) (f x)) → Stays t (OfSome Q) (first_found f xs)
  found_stays Q P f [] all g = done_stays (OfSome Q) None tt
  found_stays Q P f (x ∷ xs) all g =
      then_stays (g x all.0)
      (λ o h. choice_stays {P = Q} o h (found_stays Q P f xs all.1 g)
      (λ a k. done_stays (OfSome Q) (Some a) k))

  renamed_by : {D E A : Type 0} (P : A → Type 0) (f : D → E) (p : Painted D A) → StaysBy t P p →
      StaysBy t P (refused_as f p)
  renamed_by P f (Done a k) h = h
  renamed_by P f (Refused c k) h = h

  pub renamed_stays : {D E A : Type 0} {P : A → Type 0} (f : D → E) {p : Painted D A} →
      Stays t P p → Stays t P (refused_as f p)
  renamed_stays {P = P} f {p = p} h = record { stays = renamed_by P f p h.stays }

  any_by : {E A : Type 0} (P : A → Type 0) (p : Painted E A) → StaysBy t P p → StaysBy t Any p
  any_by P (Done a k) h = (h.0, tt)
  any_by P (Refused c k) h = h

  -- nothing is asked of the value
  pub any_stays : {E A : Type 0} {P : A → Type 0} {p : Painted E A} → Stays t P p → Stays t Any p
  any_stays {P = P} {p = p} h = record { stays = any_by P p h.stays }

pub all_any : {A : Type 0} (xs : List A) → AllByRecursion Any xs
all_any [] = tt
all_any (x ∷ xs) = (tt, all_any xs)

pub some_any : {A : Type 0} (o : Option A) → OfSome Any o
some_any None = tt
some_any (Some a) = tt
