-- Lemmas on tests of lists.
use Rattle.std.proofs.Common.{◌≡◌, ℕ, Bool, true, false, ◌||◌, List, [], ◌∷◌, refl, sym, ◌∙◌, subst, true≢false, inl, inr, ◌⊎◌}
use Rattle.std.proofs.lemmas.Bool.{eqb-true, eq-eqb}
use Rattle.std.specs.Prelude.{nat_eq}
use Rattle.std.specs.List.{list_any}
use Rattle.syntax_set.specs.Numbers.{has_number}

-- two tests of which each one passes where the other does
pub same_bool : (a b : Bool) → (a ≡ true → b ≡ true) → (b ≡ true → a ≡ true) → a ≡ b
same_bool true b f g = sym (f refl)
same_bool false true f g = g refl
same_bool false false f g = refl

pub or_left : (a b : Bool) → a ≡ true → (a || b) ≡ true
or_left true b h = refl
or_left false b h = absurd (true≢false (sym h))

pub or_right : (a b : Bool) → b ≡ true → (a || b) ≡ true
or_right true b h = refl
or_right false b h = h

pub or_cases : (a b : Bool) → (a || b) ≡ true → (a ≡ true) ⊎ (b ≡ true)
or_cases true b h = inl refl
or_cases false b h = inr h

pub or_assoc : (a b c : Bool) → ((a || b) || c) ≡ (a || (b || c))
or_assoc true b c = refl
or_assoc false b c = refl

pub or_false : (a : Bool) → (a || false) ≡ a
or_false true = refl
or_false false = refl

-- an element at which a test passes: each test that passes there passes at some element of the list
pub record PassesAt {X : Type 0} (p : X → Bool) (xs : List X) : Type 0 where
  pub at : X
  pub here : p at ≡ true
  pub among : (q : X → Bool) → q at ≡ true → list_any q xs ≡ true

pub witness : {X : Type 0} (p : X → Bool) (xs : List X) → list_any p xs ≡ true → PassesAt p xs
witness p [] h = absurd (true≢false (sym h))
witness p (x ∷ xs) h = elim (or_cases (p x) (list_any p xs) h) [
  | inl here ↦ record { at = x; here = here; among = λ q e. or_left (q x) (list_any q xs) e }
  | inr later ↦ let w = witness p xs later in
      record { at = w.at; here = w.here; among = λ q e. or_right (q x) (list_any q xs) (w.among q e) }
]

pub is_itself : (n : ℕ) → nat_eq n n ≡ true
is_itself n = eq-eqb n n refl

-- a test passes on numbers among which there is one at which it passes
pub passes_among : (p : ℕ → Bool) (xs : List ℕ) (n : ℕ) → has_number xs n ≡ true → p n ≡ true → list_any p xs ≡ true
passes_among p xs n among here =
    let w = witness (nat_eq n) xs among in
    let P : ℕ → Type 0 = λ k. p k ≡ true in
    w.among p (subst P (eqb-true n w.at w.here) here)

-- the element at which a test passes is among the numbers
pub is_among : (p : ℕ → Bool) (xs : List ℕ) (w : PassesAt p xs) → has_number xs w.at ≡ true
is_among p xs w = w.among (nat_eq w.at) (is_itself w.at)

-- two tests that agree at each element agree on the list
pub list_any-same : {X : Type 0} (p q : X → Bool) → ((x : X) → p x ≡ q x) → (xs : List X) → list_any p xs ≡ list_any q xs
list_any-same p q same xs = same_bool (list_any p xs) (list_any q xs)
    (λ h. let w = witness p xs h in w.among q (sym (same w.at) ∙ w.here))
    (λ h. let w = witness q xs h in w.among p (same w.at ∙ w.here))
