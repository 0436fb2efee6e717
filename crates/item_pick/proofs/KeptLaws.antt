-- What is kept of an item at the columns with a key, as a test and as what it says.
use Rattle.item_pick.proofs.Common.{◌≡◌, refl, sym, subst, ℕ, zero, suc, Bool, true, List, [], ◌∷◌, Some, Option, slice_get, ◌&&◌, Sets, ItemId, ItemKind, Keyword, Match, Region, Pattern, Rules, item_of, fails_after, first_asked, idles_before, IsToldOfFirst, sits_by, some_idle, has_one_start, IsFirst, IsPatternOf, is_screened, stays_out, StaysOut, list_all, Asks, some_asked, is_kind_screened}
use Rattle.std.proofs.lemmas.Bool.{and_parts as both_true}

-- a test that all of a list pass
all_pass : {A : Type 0} (f : A → Bool) (xs : List A) → ((n : ℕ) (x : A) → Some x ≡ slice_get xs n → f x ≡ true) → list_all f xs ≡ true
all_pass f [] h = refl
all_pass f (x ∷ xs) h = rw (h 0 x refl, all_pass f xs (λ n y e. h (suc n) y e)) refl

one_passes : {A : Type 0} (f : A → Bool) (xs : List A) → list_all f xs ≡ true → (n : ℕ) (x : A) → Some x ≡ slice_get xs n → f x ≡ true
one_passes f [] h n x e = absurd (cc)
one_passes f (y ∷ ys) h zero x e =
    let here : f y ≡ true = (both_true (f y) (list_all f ys) h).0 in
    cc
one_passes f (y ∷ ys) h (suc n) x e = one_passes f ys (both_true (f y) (list_all f ys) h).1 n x e

module _ (sets : Sets) (budget : ℕ) (ignore : Bool) (number : ℕ) where
  all_screened : (kind : ItemKind) → ((pattern : Pattern) → IsPatternOf kind pattern → is_screened sets budget ignore number pattern ≡ true) →
      is_kind_screened sets budget ignore number kind ≡ true
  all_screened Keyword h = refl
  all_screened (Match pattern) h = h pattern refl
  all_screened (Region starts skip ends) h = all_pass (is_screened sets budget ignore number) starts (λ n pattern e. h pattern (n, e))

  one_screened : (kind : ItemKind) → is_kind_screened sets budget ignore number kind ≡ true →
      (pattern : Pattern) → IsPatternOf kind pattern → is_screened sets budget ignore number pattern ≡ true
  one_screened Keyword h pattern its = absurd its
  one_screened (Match p) h pattern its = subst (λ (q : Pattern). is_screened sets budget ignore number q ≡ true) its h
  one_screened (Region starts skip ends) h pattern its = one_passes (is_screened sets budget ignore number) starts h its.0 pattern its.1

-- an item stays out just if it passes the test
pub out_told : (r : Rules) (number : ℕ) (i : ItemId) → StaysOut r number i → stays_out r number i.0 ≡ true
out_told r number i out = all_screened r.sets r.budget (item_of r.items i).ignore number (item_of r.items i).kind out

pub out_by : (r : Rules) (number : ℕ) (i : ItemId) → stays_out r number i.0 ≡ true → StaysOut r number i
out_by r number i told = one_screened r.sets r.budget (item_of r.items i).ignore number (item_of r.items i).kind told

-- what was answered of a first pattern is true of the item
pub first_told : (asks : Asks) (r : Rules) (i : ItemId) (number : ℕ) (ignore : Bool) → ignore ≡ (item_of r.items i).ignore → (pattern : Pattern) → IsFirst r i pattern → (is : Bool) →
    (is ≡ true → asks r.sets r.budget ignore number pattern.tree ≡ true) → is ≡ true → first_asked asks r number i.0 ≡ true
first_told asks r i number ignore same pattern first is told e =
    subst (λ (o : Option Pattern). some_asked (asks r.sets r.budget (item_of r.items i).ignore number) o ≡ true) (sym first)
    (subst (λ b. asks r.sets r.budget b number pattern.tree ≡ true) same (told e))

pub first_by : (asks : Asks) (r : Rules) (i : ItemId) (number : ℕ) → first_asked asks r number i.0 ≡ true → IsToldOfFirst asks r number i
first_by asks r i number told pattern first =
    subst (λ (o : Option Pattern). some_asked (asks r.sets r.budget (item_of r.items i).ignore number) o ≡ true) first told

pub idle_by : (r : Rules) (i : ItemId) (number : ℕ) (pattern : Pattern) → IsFirst r i pattern → (is sits : Bool) → (is ≡ true → first_asked fails_after r number i.0 ≡ true) →
    (sits ≡ true → (has_one_start (item_of r.items i).kind && sits_by pattern) ≡ true) → (is && sits) ≡ true → idles_before r number i.0 ≡ true
idle_by r i number pattern first is sits told sat e =
    let a = both_true is sits e in
    let b = both_true (has_one_start (item_of r.items i).kind) (sits_by pattern) (sat a.1) in
    let fails = first_by fails_after r i number (told a.0) pattern first in
    λ j. b.0 j && subst (λ (o : Option Pattern). some_idle r.sets r.budget (item_of r.items i).ignore number o ≡ true) (sym first) (λ k. b.1 k && fails k) j
