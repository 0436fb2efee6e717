-- What stands in a list after a replacement, and how long it is.
use Rattle.std.proofs.Common.{arith, ap, ◌∙◌, ◌≡◌, ◌<◌, ◌≤◌, ◌+◌, ◌-◌, ℕ, suc, zero, List, [], ◌∷◌, ◌++◌, take, drop, length, length-append, length-take, length-drop, slice_get, refl}
use Rattle.chunk_list.specs.Replaced.{replaced}

get_left : {X : Type 0} (xs ys : List X) (n : ℕ) → n < length xs → slice_get (xs ++ ys) n ≡ slice_get xs n
get_left [] ys n h = absurd (omega arith)
get_left (x ∷ xs) ys zero h = refl
get_left (x ∷ xs) ys (suc n) h = get_left xs ys n (omega arith)

get_right : {X : Type 0} (xs ys : List X) (m n : ℕ) → length xs ≡ m → m ≤ n → slice_get (xs ++ ys) n ≡ slice_get ys (n - m)
get_right [] ys m n e h = let q : n ≡ n - m = omega arith in ap (slice_get ys) q
get_right (x ∷ xs) ys m zero e h = absurd (omega arith)
get_right (x ∷ xs) ys m (suc n) e h = let q : n - (m - 1) ≡ suc n - m = omega arith in get_right xs ys (m - 1) n (omega arith) (omega arith) ∙ ap (slice_get ys) q

get_taken : {X : Type 0} (a : ℕ) (xs : List X) (n : ℕ) → n < a → slice_get (take a xs) n ≡ slice_get xs n
get_taken zero xs n h = absurd (omega arith)
get_taken (suc a) [] n h = refl
get_taken (suc a) (x ∷ xs) zero h = refl
get_taken (suc a) (x ∷ xs) (suc n) h = get_taken a xs n (omega arith)

get_dropped : {X : Type 0} (b : ℕ) (xs : List X) (n : ℕ) → slice_get (drop b xs) n ≡ slice_get xs (b + n)
get_dropped zero xs n = let e : n ≡ 0 + n = omega arith in ap (slice_get xs) e
get_dropped (suc b) [] n = refl
get_dropped (suc b) (x ∷ xs) n = let e : suc (b + n) ≡ suc b + n = omega arith in get_dropped b xs n ∙ ap (slice_get (x ∷ xs)) e

module _ {X : Type 0} (xs : List X) (a b : ℕ) (new : List X) (ordered : a ≤ b) (inside : b ≤ length xs) where
  pub length-replaced : length (replaced xs a b new) ≡ a + length new + (length xs - b)
  length-replaced = simp (length-append, length-take, length-drop) (omega arith)

  taken_length : length (take a xs) ≡ a
  taken_length = simp length-take (omega arith)

  front_length : length (take a xs ++ new) ≡ a + length new
  front_length = length-append (take a xs) new ∙ ap (λ n. n + length new) taken_length

  -- before the change
  pub above : (n : ℕ) → n < a → slice_get (replaced xs a b new) n ≡ slice_get xs n
  above n h =
      let p : n < length (take a xs) = rw taken_length h in
      let q : n < length (take a xs ++ new) = omega (arith, front_length) in
      get_left (take a xs ++ new) (drop b xs) n q ∙ get_left (take a xs) new n p ∙ get_taken a xs n h

  -- in it
  pub within : (n : ℕ) → a ≤ n → n - a < length new → slice_get (replaced xs a b new) n ≡ slice_get new (n - a)
  within n low high =
      let q : n < length (take a xs ++ new) = omega (arith, front_length) in
      get_left (take a xs ++ new) (drop b xs) n q ∙ get_right (take a xs) new a n taken_length low

  -- behind it
  pub below : (k n : ℕ) → b ≤ n → k + b ≡ n + (a + length new) → slice_get (replaced xs a b new) k ≡ slice_get xs n
  below k n h e =
      let q : b + (k - (a + length new)) ≡ n = omega arith in
      get_right (take a xs ++ new) (drop b xs) (a + length new) k front_length (omega arith)
      ∙ get_dropped b xs (k - (a + length new)) ∙ ap (slice_get xs) q
