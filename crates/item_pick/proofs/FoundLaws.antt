-- The first of some choices that gives anything, choice by choice.
use Rattle.item_pick.proofs.Common.{◌≡◌, ◌∙◌, refl, sym, ap, arith, ℕ, zero, suc, ◌+◌, ◌-◌, ◌<◌, ◌≤◌, Bool, true, false, List, [], ◌∷◌, length, take, reverse, Option, Some, None, nat_lt, slice_get, nat_tests, Looked, Painted, Done, looked_first, done, first_found, Cause, ItemId, items_below, Stop, IsStop, IsIdle, goes_on, columns, columns_from}
use Rattle.item_pick.proofs.ListLaws.{last_first}
use Rattle.item_pick.proofs.ToldLaws.{stops}

module _ {A B : Type 0} (f : A → Painted Cause (Option B)) where
  abbrev pub found_after : Looked → List A → Painted Cause (Option B)
  found_after k xs = looked_first (Some k) (first_found f xs)

  module _ (a : A) (rest : List A) where
    abbrev or_rest : Option B → Painted Cause (Option B)
    or_rest found = elim found [ None ↦ first_found f rest | Some b ↦ done (Some b) ]

    pub found_none : (j k : Looked) → looked_first (Some j) (f a) ≡ Done None (Some k) → found_after j (a ∷ rest) ≡ found_after k rest
    found_none j k e = goes_on j k (f a) None or_rest e

    pub found_some : (j k : Looked) (b : B) → looked_first (Some j) (f a) ≡ Done (Some b) (Some k) → found_after j (a ∷ rest) ≡ Done (Some b) (Some k)
    found_some j k b e = goes_on j k (f a) (Some b) or_rest e

    pub found_stops : (j : Looked) (stop : Stop) → IsStop stop (looked_first (Some j) (f a)) → IsStop stop (found_after j (a ∷ rest))
    found_stops j stop h = stops j stop (f a) or_rest h

-- the columns of a line
pub columns_next : (c last : ℕ) → c ≤ last → columns_from c last ≡ c ∷ columns_from (suc c) last
columns_next c last h =
    let e : suc last - c ≡ suc (suc last - suc c) = omega arith in
    ap (columns c) e

pub columns_past : (c last : ℕ) → last < c → columns_from c last ≡ []
columns_past c last h =
    let e : suc last - c ≡ 0 = omega arith in
    ap (columns c) e

module _ {B : Type 0} (f : ℕ → Painted Cause (Option B)) (last : ℕ) where
  abbrev pub from_column : Looked → ℕ → Painted Cause (Option B)
  from_column k c = found_after f k (columns_from c last)

  pub column_none : (j k : Looked) (c d : ℕ) → c ≤ last → d ≡ suc c → looked_first (Some j) (f c) ≡ Done None (Some k) → from_column j c ≡ from_column k d
  column_none j k c d h n e =
      ap (found_after f j) (columns_next c last h)
      ∙ (found_none f c (columns_from (suc c) last) j k e ∙ ap (from_column k) (sym n))

  pub column_some : (j k : Looked) (c : ℕ) (b : B) → c ≤ last → looked_first (Some j) (f c) ≡ Done (Some b) (Some k) → from_column j c ≡ Done (Some b) (Some k)
  column_some j k c b h e = ap (found_after f j) (columns_next c last h) ∙ found_some f c (columns_from (suc c) last) j k b e

  pub column_stops : (j : Looked) (stop : Stop) (c : ℕ) → c ≤ last → IsStop stop (looked_first (Some j) (f c)) → IsStop stop (from_column j c)
  column_stops j stop c h s = rw (columns_next c last h) (found_stops f c (columns_from (suc c) last) j stop s)

  pub column_past : (k : Looked) (c : ℕ) → last < c → from_column k c ≡ Done None (Some k)
  column_past k c h = ap (found_after f k) (columns_past c last h)

  pass : (k : Looked) (a : ℕ) (past : Bool) → nat_lt last a ≡ past → (a ≤ last → IsIdle f k a) → from_column k a ≡ from_column k (suc a)
  pass k a true e idle =
      let h : last < a = grind (arith, nat_tests) in
      column_past k a h ∙ sym (column_past k (suc a) (omega arith))
  pass k a false e idle =
      let h : a ≤ last = grind (arith, nat_tests) in
      column_none k k a (suc a) h refl (idle h)

  -- idle columns are passed over
  pub skip : (k : Looked) (a n b : ℕ) → b ≡ a + n → ((c : ℕ) → a ≤ c → c < b → c ≤ last → IsIdle f k c) → from_column k a ≡ from_column k b
  skip k a zero b e idle = let s : a ≡ b = omega arith in ap (from_column k) s
  skip k a (suc n) b e idle =
      pass k a (nat_lt last a) refl (idle a (omega arith) (omega arith))
      ∙ skip k (suc a) n b (omega arith) (λ c h. idle c (omega (arith, h)))

  pub skip_to : (k : Looked) (a b : ℕ) → a ≤ b → ((c : ℕ) → a ≤ c → c < b → c ≤ last → IsIdle f k c) → from_column k a ≡ from_column k b
  skip_to k a b h idle = skip k a (b - a) b (omega arith) idle

  -- where only idle columns are left, nothing is found
  pub skip_rest : (k : Looked) (a : ℕ) → ((c : ℕ) → a ≤ c → c ≤ last → IsIdle f k c) → from_column k a ≡ Done None (Some k)
  skip_rest k a idle =
      let h : last < a + suc last = omega arith in
      skip_to k a (a + suc last) (omega arith) (λ c l _ m. idle c l m) ∙ column_past k (a + suc last) h

-- a list from its end
module _ {A B : Type 0} (f : A → Painted Cause (Option B)) (xs : List A) where
  abbrev pub below : Looked → ℕ → Painted Cause (Option B)
  below k n = found_after f k (reverse (take n xs))

  module _ (n m : ℕ) (x : A) (next : n ≡ suc m) (within : n ≤ length xs) (is : Some x ≡ slice_get xs m) where
    pub below_none : (j k : Looked) → looked_first (Some j) (f x) ≡ Done None (Some k) → below j n ≡ below k m
    below_none j k e = ap (found_after f j) (last_first xs n m x next within is) ∙ found_none f x (reverse (take m xs)) j k e

    pub below_some : (j k : Looked) (b : B) → looked_first (Some j) (f x) ≡ Done (Some b) (Some k) → below j n ≡ Done (Some b) (Some k)
    below_some j k b e = ap (found_after f j) (last_first xs n m x next within is) ∙ found_some f x (reverse (take m xs)) j k b e

    pub below_stops : (j : Looked) (stop : Stop) → IsStop stop (looked_first (Some j) (f x)) → IsStop stop (below j n)
    below_stops j stop h = rw (last_first xs n m x next within is) (found_stops f x (reverse (take m xs)) j stop h)

-- the items, the last one first
module _ {B : Type 0} (f : ItemId → Painted Cause (Option B)) (n m : ℕ) (next : n ≡ suc m) where
  abbrev pub items_after : Looked → ℕ → Painted Cause (Option B)
  items_after k n = found_after f k (items_below n)

  abbrev item : ItemId
  item = record { 0 = m }

  pub item_none : (j k : Looked) → looked_first (Some j) (f item) ≡ Done None (Some k) → items_after j n ≡ items_after k m
  item_none j k e = ap (items_after j) next ∙ found_none f item (items_below m) j k e

  pub item_some : (j k : Looked) (b : B) → looked_first (Some j) (f item) ≡ Done (Some b) (Some k) → items_after j n ≡ Done (Some b) (Some k)
  item_some j k b e = ap (items_after j) next ∙ found_some f item (items_below m) j k b e

  pub item_stops : (j : Looked) (stop : Stop) → IsStop stop (looked_first (Some j) (f item)) → IsStop stop (items_after j n)
  item_stops j stop h = rw next (found_stops f item (items_below m) j stop h)

-- idle items are passed over
module _ {B : Type 0} (f : ItemId → Painted Cause (Option B)) where
  pub items_skip : (k : Looked) (a b n : ℕ) → a ≡ b + n → ((j : ℕ) → b ≤ j → j < a → IsIdle f k (record { 0 = j })) →
      found_after f k (items_below a) ≡ found_after f k (items_below b)
  items_skip k a b zero e idle = let s : a ≡ b = omega arith in ap (λ m. found_after f k (items_below m)) s
  items_skip k a b (suc n) e idle =
      let s : a ≡ suc (b + n) = omega arith in
      item_none f a (b + n) s k k (idle (b + n) (omega arith) (omega arith))
      ∙ items_skip k (b + n) b n refl (λ j h g. idle j h (omega (arith, g)))
