-- What holds of the value that a rule comes to, and of the cause for which it is refused.
use Rattle.std.proofs.Common.{◌≡◌, Bool, true, false, List, [], ◌∷◌, refl, subst}
use Rattle.std.specs.Prelude.{Option, Some, None}
use Rattle.std.specs.List.{AllByRecursion}
use Rattle.syn_base.specs.declared.looked.Looked.{Looked}
use Rattle.paint_rules.specs.Painted.{Painted, Done, Refused, looked_first, done, looks_at}
use Rattle.paint_rules.specs.Painted.{◌>>=◌, first_found, refused_as}
use Rattle.paint_laws.specs.Outcomes.{Gives, Refuses}

abbrev pub ComesBy : {E A : Type 0} → (E → Type 0) → (A → Type 0) → Painted E A → Type 0
ComesBy P Q (Done a k) = Q a
ComesBy P Q (Refused c k) = P c

-- if it comes to a value, the second holds of it, and else the first of its cause
pub record ComesTo {E A : Type 0} (P : E → Type 0) (Q : A → Type 0) (p : Painted E A)
    : Type 0 where
  pub holds : ComesBy P Q p

abbrev pub Any : {A : Type 0} → A → Type 0
Any a = Unit {0}

pub cause_holds : {E A : Type 0} (P : E → Type 0) (Q : A → Type 0) (p : Painted E A) (c : E) →
    ComesTo P Q p → Refuses p c → P c
cause_holds P Q p c t g = let h : ComesBy P Q (Refused c g.looked) =
    subst (ComesBy P Q) g.is t.holds in h

first_by : {E A : Type 0} (P : E → Type 0) (Q : A → Type 0) (j : Option Looked) (p : Painted E A) →
    ComesBy P Q p → ComesBy P Q (looked_first j p)
first_by P Q j (Done a k) h = h
first_by P Q j (Refused c k) h = h

then_by : {E A B : Type 0} (P : E → Type 0) (Q : A → Type 0) (R : B → Type 0) (p : Painted E A)
    (f : A → Painted E B) → ComesBy P Q p → ((a : A) → Gives p a → Q a → ComesTo P R (f a)) →
    ComesBy P R (p >>= f)
then_by P Q R (Done a k) f h g =
    first_by P R k (f a) (g a (record { looked = k; is = refl }) h).holds
then_by P Q R (Refused c k) f h g = h

module _ {E : Type 0} (P : E → Type 0) where
  -- what follows the value
  pub then_comes : {A B : Type 0} (Q : A → Type 0) (R : B → Type 0) {p : Painted E A}
      {f : A → Painted E B} → ComesTo P Q p →
      ((a : A) → Gives p a → Q a → ComesTo P R (f a)) → ComesTo P R (p >>= f)
  then_comes Q R {p = p} {f = f} t g = record { holds = then_by P Q R p f t.holds g }

  pub done_comes : {A : Type 0} (Q : A → Type 0) (a : A) → Q a → ComesTo P Q (done a)
  done_comes Q a h = record { holds = h }

  pub looks_comes : (k : Looked) → ComesTo P Any (looks_at k)
  looks_comes k = record { holds = tt }

  pub test_comes : {A : Type 0} {Q : A → Type 0} (b : Bool) {p q : Painted E A} → ComesTo P Q p →
      ComesTo P Q q → ComesTo P Q (elim b as (λ _. Painted E A) [ true ↦ p | false ↦ q ])
  test_comes true h k = h
  test_comes false h k = k

  -- what a test says is known of what follows it
  pub tested_comes : {A : Type 0} {Q : A → Type 0} (b : Bool) {p q : Painted E A} →
      (b ≡ true → ComesTo P Q p) → ComesTo P Q q →
      ComesTo P Q (elim b as (λ _. Painted E A) [ true ↦ p | false ↦ q ])
  tested_comes true h k = h refl
  tested_comes false h k = k

  pub choice_comes : {A B : Type 0} {R : B → Type 0} (o : Option A) {p : Painted E B}
      {f : A → Painted E B} → ComesTo P R p → ((a : A) → o ≡ Some a → ComesTo P R (f a)) →
      ComesTo P R (elim o as (λ _. Painted E B) [ None ↦ p | Some a ↦ f a ])
  choice_comes None h g = h
  choice_comes (Some a) h g = g a refl

  pub found_comes : {X A : Type 0} (S : X → Type 0) (f : X → Painted E (Option A)) (xs : List X) →
      AllByRecursion S xs → ((x : X) → S x → ComesTo P Any (f x)) →
      ComesTo P Any (first_found f xs)
  found_comes S f [] all g = done_comes Any None tt
  found_comes S f (x ∷ xs) all g =
      then_comes Any Any (g x all.0)
      (λ o _ _. choice_comes o (found_comes S f xs all.1 g)
      (λ a _. done_comes Any (Some a) tt))

  any_by : {A : Type 0} (Q : A → Type 0) (p : Painted E A) → ComesBy P Q p → ComesBy P Any p
  any_by Q (Done a k) h = tt
  any_by Q (Refused c k) h = h

  -- nothing is asked of the value
  pub any_comes : {A : Type 0} {Q : A → Type 0} {p : Painted E A} → ComesTo P Q p →
      ComesTo P Any p
  any_comes {Q = Q} {p = p} t = record { holds = any_by Q p t.holds }

renamed_by : {D E A : Type 0} (P : E → Type 0) (Q : A → Type 0) (f : D → E) (p : Painted D A) →
    ComesBy (λ d. P (f d)) Q p → ComesBy P Q (refused_as f p)
renamed_by P Q f (Done a k) h = h
renamed_by P Q f (Refused c k) h = h

-- its causes under another name
pub renamed_comes : {D E A : Type 0} (P : E → Type 0) {Q : A → Type 0} (f : D → E)
    {p : Painted D A} → ComesTo (λ d. P (f d)) Q p → ComesTo P Q (refused_as f p)
renamed_comes P {Q = Q} f {p = p} t = record { holds = renamed_by P Q f p t.holds }
