-- Members of lists, and the columns of a line.
use Rattle.std.proofs.Common.{◌<◌, ◌≤◌, ◌+◌, ◌-◌, ℕ, zero, suc, arith, List, [], ◌∷◌, ◌++◌}
use Rattle.std.proofs.Common.{subst, sym}
use Rattle.std.specs.Prelude.{reverse, Contains}
use Rattle.std.specs.List.{AllByRecursion}
use Rattle.std.proofs.lemmas.Grind.{reverse_onto}
use Rattle.std.proofs.lemmas.List.Elements.{All-contains_itself, recursion_from_All}
use Rattle.paint_rules.specs.ItemMatch.{columns, columns_from}

pub each_weaker : {A : Type 0} (P Q : A → Type 0) → ((a : A) → P a → Q a) → (xs : List A) →
    AllByRecursion P xs → AllByRecursion Q xs
each_weaker P Q w [] all = tt
each_weaker P Q w (x ∷ xs) all = (w x all.0, each_weaker P Q w xs all.1)

pub members : {A : Type 0} (xs : List A) → AllByRecursion (Contains xs) xs
members xs = recursion_from_All (Contains xs) xs (All-contains_itself xs)

joined_each : {A : Type 0} (P : A → Type 0) (xs ys : List A) → AllByRecursion P xs →
    AllByRecursion P ys → AllByRecursion P (xs ++ ys)
joined_each P [] ys all more = more
joined_each P (x ∷ xs) ys all more = (all.0, joined_each P xs ys all.1 more)

reversed_each : {A : Type 0} (P : A → Type 0) (xs : List A) → AllByRecursion P xs →
    AllByRecursion P (reverse xs)
reversed_each P [] all = tt
reversed_each P (x ∷ xs) all =
    subst (AllByRecursion P) (sym (reverse_onto xs x []))
    (joined_each P (reverse xs) (x ∷ []) (reversed_each P xs all.1) (all.0, tt))

pub reversed_members : {A : Type 0} (xs : List A) → AllByRecursion (Contains xs) (reverse xs)
reversed_members xs = reversed_each (Contains xs) xs (members xs)

columns_in : (c n low high : ℕ) → low ≤ c → (0 < n → c + n ≤ suc high) →
    AllByRecursion (λ d. (low ≤ d) × (d ≤ high)) (columns c n)
columns_in c zero low high from to = tt
columns_in c (suc n) low high from to =
    let last : c + suc n ≤ suc high = to (omega arith) in
    ((from, omega arith), columns_in (suc c) n low high (omega arith) (λ _. omega arith))

-- the columns from one to the line's end
pub columns_between : (first last : ℕ) →
    AllByRecursion (λ d. (first ≤ d) × (d ≤ last)) (columns_from first last)
columns_between first last =
    columns_in first (suc last - first) first last (omega arith) (λ some. omega (arith, some))
