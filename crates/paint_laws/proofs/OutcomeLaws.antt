-- What a rule tells of the value that it comes to.
use Rattle.std.proofs.Common.{◌≡◌, Bool, true, false, List, [], ◌∷◌, refl, subst, ap}
use Rattle.std.specs.Prelude.{Option, Some, None}
use Rattle.std.specs.List.{AllByRecursion}
use Rattle.syn_base.specs.declared.looked.Looked.{Looked}
use Rattle.paint_rules.specs.Painted.{Painted, Done, Refused, looked_first, done, ◌>>=◌}
use Rattle.paint_rules.specs.Painted.{first_found, refused_as}
use Rattle.paint_laws.specs.Outcomes.{Gives}

abbrev pub TellsOf : {E A : Type 0} → (A → Type 0) → Painted E A → Type 0
TellsOf P (Done a k) = P a
TellsOf P (Refused c k) = Unit {0}

-- if it comes to a value, this holds of it
pub record Tells {E A : Type 0} (P : A → Type 0) (p : Painted E A) : Type 0 where
  pub holds : TellsOf P p

pub told : {E A : Type 0} (P : A → Type 0) (p : Painted E A) (a : A) → Tells P p → Gives p a → P a
told {E = E} P p a t g = let h : TellsOf {E = E} P (Done a g.looked) =
    subst (TellsOf {E = E} P) g.is t.holds in h

tells_first : {E A : Type 0} (P : A → Type 0) (j : Option Looked) (p : Painted E A) → TellsOf P p →
    TellsOf P (looked_first j p)
tells_first P j (Done a k) h = h
tells_first P j (Refused c k) h = tt

given_by : {E A B : Type 0} (Q : B → Type 0) (p : Painted E A) (f : A → Painted E B) →
    ((a : A) → Gives p a → Tells Q (f a)) → TellsOf Q (p >>= f)
given_by Q (Done a k) f h = tells_first Q k (f a) (h a (record { looked = k; is = refl })).holds
given_by Q (Refused c k) f h = tt

-- what follows the value
pub then_tells : {E A B : Type 0} (Q : B → Type 0) (p : Painted E A) (f : A → Painted E B) →
    ((a : A) → Gives p a → Tells Q (f a)) → Tells Q (p >>= f)
then_tells Q p f h = record { holds = given_by Q p f h }

pub after_tells : {E A B : Type 0} (P : A → Type 0) (Q : B → Type 0) (p : Painted E A)
    (f : A → Painted E B) →
    Tells P p → ((a : A) → P a → Tells Q (f a)) → Tells Q (p >>= f)
after_tells P Q p f t h = then_tells Q p f (λ a g. h a (told P p a t g))

pub done_tells : {E A : Type 0} (P : A → Type 0) (a : A) → P a → Tells {E = E} P (done a)
done_tells P a h = record { holds = h }

weaker_of : {E A : Type 0} (P Q : A → Type 0) (p : Painted E A) → ((a : A) → P a → Q a) →
    TellsOf P p → TellsOf Q p
weaker_of P Q (Done a k) w h = w a h
weaker_of P Q (Refused c k) w h = tt

pub weaker_tells : {E A : Type 0} (P Q : A → Type 0) (p : Painted E A) → ((a : A) → P a → Q a) →
    Tells P p → Tells Q p
weaker_tells P Q p w t = record { holds = weaker_of P Q p w t.holds }

pub tested_tells : {E A : Type 0} {P : A → Type 0} (b : Bool) {p q : Painted E A} → Tells P p →
    Tells P q →
    Tells P (elim b as (λ _. Painted E A) [ true ↦ p | false ↦ q ])
tested_tells true h k = h
tested_tells false h k = k

renamed_of : {D E A : Type 0} (P : A → Type 0) (f : D → E) (p : Painted D A) → TellsOf P p →
    TellsOf P (refused_as f p)
renamed_of P f (Done a k) h = h
renamed_of P f (Refused c k) h = tt

pub renamed_tells : {D E A : Type 0} (P : A → Type 0) (f : D → E) (p : Painted D A) → Tells P p →
    Tells P (refused_as f p)
renamed_tells P f p t = record { holds = renamed_of P f p t.holds }

itself_of : {E A : Type 0} (p : Painted E A) → TellsOf (Gives p) p
itself_of (Done a k) = record { looked = k; is = refl }
itself_of (Refused c k) = tt

-- what a rule tells that is given what it came to
pub given_tells : {E A : Type 0} (P : A → Type 0) (p : Painted E A) → ((a : A) → Gives p a → P a) →
    Tells P p
given_tells P p h = weaker_tells (Gives p) P p h (record { holds = itself_of p })

-- a fact of what is there, if anything is
abbrev pub OfSome : {A : Type 0} → (A → Type 0) → Option A → Type 0
OfSome P None = Unit {0}
OfSome P (Some a) = P a

pub first_tells : {E A B : Type 0} (P : A → Type 0) (Q : B → Type 0) (f : A → Painted E (Option B))
    (xs : List A) → AllByRecursion P xs →
    ((x : A) → P x → Tells (OfSome Q) (f x)) → Tells (OfSome Q) (first_found f xs)
first_tells P Q f [] all h = done_tells (OfSome Q) None tt
first_tells {E = E} {B = B} P Q f (x ∷ xs) all h =
    after_tells (OfSome Q) (OfSome Q) (f x) _ (h x all.0) (by_found (first_tells P Q f xs all.1 h))
  where
    by_found : Tells (OfSome Q) (first_found f xs) → (found : Option B) → OfSome Q found →
        Tells (OfSome Q)
        (elim found as (λ _. Painted E (Option B))
        [ None ↦ first_found f xs | Some b ↦ done (Some b) ])
    by_found rest None q = rest
    by_found rest (Some b) q = done_tells (OfSome Q) (Some b) q

pub each_true : {A : Type 0} (xs : List A) → AllByRecursion (λ _. Unit {0}) xs
each_true [] = tt
each_true (x ∷ xs) = (tt, each_true xs)

as_by : {D E A : Type 0} (f : D → E) (p : Painted D A) (a : A) (k : Option Looked) →
    refused_as f p ≡ Done a k → Gives p a
as_by f (Done b j) a k e = let same : b ≡ a = cc in
    record { looked = j; is = ap (λ b. Done b j) same }
as_by f (Refused c j) a k e = absurd (cc)

-- a value under another name of its refusals
pub gives_as : {D E A : Type 0} (f : D → E) (p : Painted D A) (a : A) → Gives (refused_as f p) a →
    Gives p a
gives_as f p a g = as_by f p a g.looked g.is

-- a rule gives one value
pub gives_one : {E A : Type 0} (p : Painted E A) (a b : A) → Gives p a → Gives p b → a ≡ b
gives_one p a b g k = cc (g.is, k.is)
