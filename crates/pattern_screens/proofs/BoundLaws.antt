-- Bounds part by part are those of the whole.
use Rattle.pattern_screens.proofs.Common.{◌≡◌, ℕ, ◌+◌, ◌*◌, ap, ◌∙◌, arith, Shape, Bound, then_bound, or_bound}

pub then-then : (a b c : Bound) → then_bound (then_bound a b) c ≡ then_bound a (then_bound b c)
then-then a b c =
    let ways : (a.ways * b.ways) * c.ways ≡ a.ways * (b.ways * c.ways) = omega arith in
    let cost : (a.cost + a.ways * b.cost) + (a.ways * b.ways) * c.cost ≡ a.cost + a.ways * (b.cost + b.ways * c.cost) = omega arith in
    λ i. record { ways = ways i; cost = cost i }

pub or-or : (a b c : Bound) → or_bound (or_bound a b) c ≡ or_bound a (or_bound b c)
or-or a b c =
    let ways : (a.ways + b.ways) + c.ways ≡ a.ways + (b.ways + c.ways) = omega arith in
    let cost : (a.cost + b.cost) + c.cost ≡ a.cost + (b.cost + c.cost) = omega arith in
    λ i. record { ways = ways i; cost = cost i }

none-times : (n m : ℕ) → n ≡ 0 → n * m ≡ 0
none-times n m e = rw e (omega arith)

-- nothing is tried behind a part without a way
pub then-nothing : (a b : Bound) → a.ways ≡ 0 → then_bound a b ≡ a
then-nothing a b e =
    let ways : a.ways * b.ways ≡ a.ways = omega (arith, none-times a.ways b.ways e) in
    let cost : a.cost + a.ways * b.cost ≡ a.cost = omega (arith, none-times a.ways b.cost e) in
    λ i. record { ways = ways i; cost = cost i }

-- one part more that is known, of a sequence
pub one-more : (of : Shape → Bound) (first known more part : Bound) (all rest tail : Shape) → more ≡ then_bound known part → then_bound part (of tail) ≡ of rest → then_bound known (of rest) ≡ then_bound first (of all) →
    then_bound more (of tail) ≡ then_bound first (of all)
one-more of first known more part all rest tail e p h = ap (λ k. then_bound k (of tail)) e ∙ then-then known part (of tail) ∙ ap (then_bound known) p ∙ h

pub ruleset turns = (then-then, then-nothing)

pub ruleset eithers = (or-or)
