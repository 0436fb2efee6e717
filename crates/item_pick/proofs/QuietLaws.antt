-- Items that have no match at a place give nothing there.
use Rattle.item_pick.proofs.Common.{◌≡◌, ◌∙◌, refl, sym, ap, subst, arith, ℕ, zero, suc, ◌-◌, ◌<◌, ◌≤◌, ◌⊎◌, inl, inr, Bool, true, false, List, [], ◌∷◌, length, Option, Some, None, slice_get, take-length, Looked, Place, Text, line_at, ItemId, ItemKind, Keyword, Match, Region, Pattern, Painted, Done, looked_first, done, Rules, Cause, item_of, match_from, item_match, Starting, start_by, Choice, IsEarlier, IsNextItem, IsQuiet, item_numbered, IsPatternOf, IsIdle, here_at, is_free, start_at, start_if_free, goes_on, match_start, region_start}
use Rattle.item_pick.proofs.FoundLaws.{below, below_none, skip_rest}

some_at : {A : Type 0} (xs : List A) (n : ℕ) → n < length xs → (x : A) × (Some x ≡ slice_get xs n)
some_at [] n h = absurd (omega arith)
some_at (x ∷ xs) zero h = (x, refl)
some_at (x ∷ xs) (suc n) h = some_at xs n (omega arith)

module _ (r : Rules) (t : Text) (p : Place) (floor : ℕ) (k : Looked) where
  module _ (i : ItemId) (quiet : IsQuiet r t p floor k i) where
    pattern_quiet : (pattern : Pattern) → IsPatternOf (item_of r.items i).kind pattern → looked_first (Some k) (item_match r t i pattern p floor) ≡ Done None (Some k)
    pattern_quiet pattern its =
        skip_rest (match_from r t i pattern p) (length (line_at t p.line)) k (floor - pattern.lc) (quiet pattern its)

    starts_quiet : (starts : List Pattern) → ((n : ℕ) (pattern : Pattern) → Some pattern ≡ slice_get starts n → IsPatternOf (item_of r.items i).kind pattern) →
        (n : ℕ) → n ≤ length starts → below (start_at r t p floor i) starts k n ≡ Done None (Some k)
    starts_quiet starts its zero h = refl
    starts_quiet starts its (suc n) h =
        let found = some_at starts n (omega arith) in
        let x : Pattern = found.0 in
        below_none (start_at r t p floor i) starts (suc n) n x refl h found.1 k k
        (goes_on k k (item_match r t i x p floor) None (region_start (here_at r t p) i x) (pattern_quiet x (its n x found.1)))
        ∙ starts_quiet starts its n (omega arith)

    kind_quiet : (kind : ItemKind) → kind ≡ (item_of r.items i).kind → looked_first (Some k) (start_by (here_at r t p) p.col floor i kind) ≡ Done None (Some k)
    kind_quiet Keyword e = refl
    kind_quiet (Match pattern) e =
        goes_on k k (item_match r t i pattern p floor) None (λ m. done (match_start (here_at r t p) p.col i pattern m))
        (pattern_quiet pattern (subst (λ (kind : ItemKind). IsPatternOf kind pattern) e refl))
    kind_quiet (Region starts skip ends) e =
        ap (λ (xs : List Pattern). looked_first (Some k) (start_by (here_at r t p) p.col floor i (Region xs skip ends))) (sym (take-length starts))
        ∙ starts_quiet starts (λ n pattern is. subst (λ (kind : ItemKind). IsPatternOf kind pattern) e (n, is)) (length starts) (omega arith)

    module _ (tried : List ItemId) (choice : Choice) where
      by_free : (b : Bool) → looked_first (Some k) (elim b as (λ _. Painted Cause (Option Starting)) [ true ↦ start_by (here_at r t p) p.col floor i (item_of r.items i).kind | false ↦ done None ]) ≡ Done None (Some k)
      by_free true = kind_quiet (item_of r.items i).kind refl
      by_free false = refl

      quiet_idle : IsIdle (start_if_free r t p floor tried choice) k i
      quiet_idle = by_free (is_free r tried choice i)

  pub passed_idle : (tried : List ItemId) (choice : Choice) (i : ItemId) →
      ((is_free r tried choice i ≡ false) ⊎ IsQuiet r t p floor k i) → IsIdle (start_if_free r t p floor tried choice) k i
  passed_idle tried choice i (inl e) =
      ap (λ b. looked_first (Some k) (elim b as (λ _. Painted Cause (Option Starting)) [ true ↦ start_by (here_at r t p) p.col floor i (item_of r.items i).kind | false ↦ done None ])) e
  passed_idle tried choice i (inr quiet) = quiet_idle i quiet tried choice

-- what one starts that is free
pub starts_free : (r : Rules) (t : Text) (p : Place) (floor : ℕ) (tried : List ItemId) (choice : Choice) (i : ItemId) → is_free r tried choice i ≡ true →
    start_if_free r t p floor tried choice i ≡ start_by (here_at r t p) p.col floor i (item_of r.items i).kind
starts_free r t p floor tried choice i e =
    ap (λ b. elim b as (λ _. Painted Cause (Option Starting)) [ true ↦ start_by (here_at r t p) p.col floor i (item_of r.items i).kind | false ↦ done None ]) e

-- the items behind those that are left may be passed over
pub earlier : (r : Rules) (t : Text) (p : Place) (floor : ℕ) (tried : List ItemId) (choice : Choice) (k : Looked) (left next : ℕ) →
    IsNextItem r t p floor tried choice k left next → IsEarlier r t p floor tried choice k left next
earlier r t p floor tried choice k left next h = record {
  behind = h.0;
  idle = λ j a b. passed_idle r t p floor k tried choice (item_numbered j) (h.1 j a b);
}
