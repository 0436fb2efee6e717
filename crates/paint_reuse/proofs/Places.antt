-- Where the lines of a changed text were.
use Rattle.std.proofs.Common.{arith, ap, ◌∙◌, ◌≡◌, ◌<◌, ◌≤◌, ◌+◌, ◌-◌, ◌⊎◌, inl, inr, ℕ, suc, zero, List, [], ◌∷◌, drop, length, length-append, length-take, length-drop, slice_get, Some, None, refl}
use Rattle.std.proofs.lemmas.Bool.Decides.{nat_tests}
use Rattle.paint_reuse.specs.declared.change.Change.{Change}
use Rattle.paint_reuse.specs.Change.{old_line, replaced}

pub get_dropped : {X : Type 0} (b : ℕ) (xs : List X) (n : ℕ) → slice_get (drop b xs) n ≡ slice_get xs (b + n)
get_dropped zero xs n = let e : n ≡ 0 + n = omega arith in ap (slice_get xs) e
get_dropped (suc b) [] n = refl
get_dropped (suc b) (x ∷ xs) n = let e : suc (b + n) ≡ suc b + n = omega arith in get_dropped b xs n ∙ ap (slice_get (x ∷ xs)) e

pub length_replaced : (text : List (List ℕ)) (a b : ℕ) (new : List (List ℕ)) → a ≤ b → b ≤ length text → length (replaced text a b new) ≡ a + length new + (length text - b)
length_replaced text a b new ordered inside = simp (length-append, length-take, length-drop) (omega arith)

-- where a line was
pub old_cases : (e : Change) (k j : ℕ) → old_line e k ≡ Some j → ((k < e.a) × (j ≡ k)) ⊎ ((e.a + e.count ≤ k) × (k + e.b ≡ j + (e.a + e.count)))
old_cases e k j h = grind (arith, nat_tests)

-- a line is where it was, where that is above the change, or where as many lines came as gave way
pub same_place : (e : Change) (j k : ℕ) → e.a ≤ e.b → old_line e k ≡ Some j → (j < e.a) ⊎ (e.a + e.count ≡ e.b) → k ≡ j
same_place e j k ordered was h = by (old_cases e k j was) h
  where
    by : ((k < e.a) × (j ≡ k)) ⊎ ((e.a + e.count ≤ k) × (k + e.b ≡ j + (e.a + e.count))) → (j < e.a) ⊎ (e.a + e.count ≡ e.b) → k ≡ j
    by (inl at) h = omega (arith, at.1)
    by (inr at) (inl above) = absurd (omega (arith, at.0, at.1, above, ordered))
    by (inr at) (inr level) = omega (arith, at.1, level)

-- a new line was nowhere
pub is_new : (e : Change) (k : ℕ) → e.a ≤ k → k < e.a + e.count → old_line e k ≡ None
is_new e k low high = grind (arith, nat_tests)

-- an old line above the change stays where it was
pub stays : (e : Change) (k : ℕ) → k < e.a → old_line e k ≡ Some k
stays e k h = grind (arith, nat_tests)

-- one below it moves
pub moves : (e : Change) (j k : ℕ) → e.b ≤ j → k + e.b ≡ j + (e.a + e.count) → old_line e k ≡ Some j
moves e j k h q =
    let low : e.a + e.count ≤ k = omega arith in
    let back : k - (e.a + e.count) + e.b ≡ j = omega arith in
    grind (arith, nat_tests)
