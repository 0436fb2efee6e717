-- A part costs no less where more is left of the line, or where more follows.
use Rattle.std.proofs.Common.{◌≡◌, ◌≤◌, ◌-◌, ℕ, zero, suc, Bool, true, false, arith, inl, inr, subst}
use Rattle.std.proofs.lemmas.Bool.{cases_lt}
use Rattle.std.specs.Prelude.{Option, Some, None, nat_lt, if◌then◌else◌}
use Rattle.vim_pattern.specs.Shape.{Shape, empty, one, seq, or, and, group, external, repeat, ahead, before, whole}
use Rattle.pattern_screens.specs.Lined.{is_few}
use Rattle.pattern_needs.specs.LineCosts.{Cost, cost_of, counted, endless, limited, nothing, unlimited}

-- the one costs no more than the other where no fewer are left
abbrev pub IsBelow : Cost → Cost → Type 0
IsBelow f g = (i j : ℕ) → i ≤ j → f i ≤ g j

pub nothing-below : (g : Cost) → IsBelow nothing g
nothing-below g i j h = omega arith

pub same-below : (m n : ℕ) → m ≤ n → IsBelow (λ _. m) (λ _. n)
same-below m n h i j k = h

if-below : (b : Bool) (m n : ℕ) → m ≤ n → (if b then m else 0) ≤ (if b then n else 0)
if-below true m n h = h
if-below false m n h = omega arith

-- ---- counts

abbrev pub Keeps : (Cost → Cost) → Type 0
Keeps part = (f g : Cost) → IsBelow f g → IsBelow (part f) (part g)

abbrev pub Adds : (Cost → Cost) → Type 0
Adds part = (f : Cost) (left : ℕ) → f left ≤ part f left

module _ (part : Cost → Cost) (keeps : Keeps part) where
  pub limited-below : (free most : ℕ) → Keeps (limited part free most)
  limited-below free zero f g h i j k = h i j k
  limited-below free (suc turns) f g h i j k =
      omega (arith, keeps (limited part free turns f) (limited part free turns g) (limited-below free turns f g h) i j k, if-below (nat_lt turns free) (f i) (g j) (h i j k))

  pub endless-below : Keeps (endless part)
  endless-below f g h zero zero k = omega (arith, keeps nothing nothing (nothing-below nothing) 0 0 k, h 0 0 k)
  endless-below f g h zero (suc j) k =
      omega (arith, keeps nothing (λ _. endless part g j) (nothing-below (λ _. endless part g j)) 0 (suc j) k, h 0 (suc j) k)
  endless-below f g h (suc i) zero k = absurd (omega arith)
  endless-below f g h (suc i) (suc j) k =
      let less : endless part f i ≤ endless part g j = endless-below f g h i j (omega arith) in
      omega (arith, keeps (λ _. endless part f i) (λ _. endless part g j) (same-below (endless part f i) (endless part g j) less) (suc i) (suc j) k, h (suc i) (suc j) k)

  pub unlimited-below : (least : ℕ) → Keeps (unlimited part least)
  unlimited-below zero f g h i j k = endless-below f g h i j k
  unlimited-below (suc least) f g h i j k =
      keeps (λ _. endless part f i) (λ _. endless part g j) (same-below (endless part f i) (endless part g j) (endless-below f g h i j k)) i j k

  chosen-below : (b : Bool) (free most least : ℕ) → Keeps (λ f. if b then limited part free most f else unlimited part least f)
  chosen-below true free most least f g h = limited-below free most f g h
  chosen-below false free most least f g h = unlimited-below least f g h

  counted-below : (least : ℕ) (most : Option ℕ) → Keeps (counted part least most)
  counted-below least None f g h = unlimited-below least f g h
  counted-below least (Some most) f g h = chosen-below (is_few (Some most)) (most - least) most least f g h

module _ (part : Cost → Cost) (adds : Adds part) where
  pub limited-adds : (free most : ℕ) → Adds (limited part free most)
  limited-adds free zero f left = omega arith
  limited-adds free (suc turns) f left =
      omega (arith, adds (limited part free turns f) left, limited-adds free turns f left)

  as-many : (free few most : ℕ) → few ≡ most → (f : Cost) (left : ℕ) → limited part free few f left ≤ limited part free most f left
  as-many free few most e f left = subst (λ n. limited part free few f left ≤ limited part free n f left) e (omega arith)

  -- more turns cost no less
  pub limited-more : (free few most : ℕ) → few ≤ most → (f : Cost) (left : ℕ) → limited part free few f left ≤ limited part free most f left
  limited-more free few zero h f left = as-many free few 0 (omega arith) f left
  limited-more free few (suc most) h f left =
      elim (cases_lt few (suc most)) [
        | inl less ↦ omega (arith, adds (limited part free most f) left, limited-more free few most (omega arith) f left)
        | inr all ↦ as-many free few (suc most) (omega arith) f left
      ]

  pub endless-adds : Adds (endless part)
  endless-adds f zero = omega arith
  endless-adds f (suc left) = omega arith

  unlimited-adds : (least : ℕ) → Adds (unlimited part least)
  unlimited-adds zero f left = endless-adds f left
  unlimited-adds (suc least) f left = omega (arith, adds (λ _. endless part f left) left, endless-adds f left)

  chosen-adds : (b : Bool) (free most least : ℕ) → Adds (λ f. if b then limited part free most f else unlimited part least f)
  chosen-adds true free most least f left = limited-adds free most f left
  chosen-adds false free most least f left = unlimited-adds least f left

  counted-adds : (least : ℕ) (most : Option ℕ) → Adds (counted part least most)
  counted-adds least None f left = unlimited-adds least f left
  counted-adds least (Some most) f left = chosen-adds (is_few (Some most)) (most - least) most least f left

-- ---- parts

pub cost-below : (node : Shape) → Keeps (cost_of node)
cost-below empty f g h i j k = h i j k
cost-below (one a) f g h i j k = omega (arith, h i j k)
cost-below (seq a b) f g h i j k = cost-below a (cost_of b f) (cost_of b g) (cost-below b f g h) i j k
cost-below (or a b) f g h i j k = omega (arith, cost-below a f g h i j k, cost-below b f g h i j k)
cost-below (and a b) f g h i j k = omega (arith, cost-below a nothing nothing (nothing-below nothing) i j k, cost-below b f g h i j k)
cost-below (group part number) f g h i j k = cost-below part f g h i j k
cost-below (external part number) f g h i j k = cost-below part f g h i j k
cost-below (repeat part least most lazy) f g h i j k = counted-below (cost_of part) (cost-below part) least most f g h i j k
cost-below (ahead part negative) f g h i j k = omega (arith, cost-below part nothing nothing (nothing-below nothing) i j k, h i j k)
cost-below (before part negative limit) f g h i j k = h i j k
cost-below (whole part) f g h i j k = omega (arith, cost-below part nothing nothing (nothing-below nothing) i j k, h i j k)

pub cost-adds : (node : Shape) → Adds (cost_of node)
cost-adds empty f left = omega arith
cost-adds (one a) f left = omega arith
cost-adds (seq a b) f left = omega (arith, cost-adds a (cost_of b f) left, cost-adds b f left)
cost-adds (or a b) f left = omega (arith, cost-adds a f left)
cost-adds (and a b) f left = omega (arith, cost-adds b f left)
cost-adds (group part number) f left = cost-adds part f left
cost-adds (external part number) f left = cost-adds part f left
cost-adds (repeat part least most lazy) f left = counted-adds (cost_of part) (cost-adds part) least most f left
cost-adds (ahead part negative) f left = omega arith
cost-adds (before part negative limit) f left = omega arith
cost-adds (whole part) f left = omega arith
