-- Lists with an element put into them.
use Rattle.std.proofs.Common.{sym, subst, ap, ◌∙◌, ◌<◌, ◌≡◌, ◌⊎◌, ◌/◌, ◌%◌, ◌*◌, ◌^◌, ℕ, zero, suc, true, false, arith, inl, inr, List, [], ◌∷◌, ◌++◌, length, set, refl, bit_or, w64}
use Rattle.std.specs.Prelude.{Some, slice_get, nat_eq}
use Rattle.std.specs.Int.{bit_at}
use Rattle.std.proofs.lemmas.Bool.{cases_eq}
use Rattle.std.proofs.lemmas.Bool.Decides.{nat_tests}
use Rattle.std.proofs.lemmas.Nat.Bits.{bit_at_set_other, bit_at_set_same}
use Rattle.std.proofs.lemmas.Option.{same_Some, slice_get_within}
use Rattle.slots.specs.declared.grid.Grid.{Grid}
use Rattle.slots.specs.declared.table.Table.{Table}
use Rattle.slots.specs.declared.marks.Marks.{Marks}
use Rattle.slots.specs.Entries.{IsAt, IsIn, IsMarked, IsPut, IsPutIn}

-- an element of a list with one more is one of the list, or the new one
pub pushed : {X : Type 0} (xs : List X) (x : X) (k : ℕ) (y : X) → slice_get (xs ++ x ∷ []) k ≡ Some y → (slice_get xs k ≡ Some y) ⊎ ((k ≡ length xs) × (y ≡ x))
pushed [] x zero y e = inr (refl, cc)
pushed [] x (suc k) y e = absurd cc
pushed (z ∷ zs) x zero y e = inl e
pushed (z ∷ zs) x (suc k) y e =
    elim (pushed zs x k y e) [
      | inl h ↦ inl h
      | inr h ↦ inr (omega (arith, h.0), h.1)
    ]

-- the new element is the last
pub last_pushed : {X : Type 0} (xs : List X) (x : X) → slice_get (xs ++ x ∷ []) (length xs) ≡ Some x
last_pushed [] x = refl
last_pushed (z ∷ zs) x = last_pushed zs x

-- the same where one is exchanged
pub exchanged : {X : Type 0} (xs : List X) (p : ℕ) (x : X) (k : ℕ) (y : X) → slice_get (set xs p x) k ≡ Some y → (slice_get xs k ≡ Some y) ⊎ ((k ≡ p) × (y ≡ x))
exchanged [] p x k y e = absurd cc
exchanged (z ∷ zs) zero x zero y e = inr (refl, cc)
exchanged (z ∷ zs) zero x (suc k) y e = inl e
exchanged (z ∷ zs) (suc p) x zero y e = inl e
exchanged (z ∷ zs) (suc p) x (suc k) y e =
    elim (exchanged zs p x k y e) [
      | inl h ↦ inl h
      | inr h ↦ inr (omega (arith, h.0), h.1)
    ]

-- a grid with one more row
pub in_pushed : {E : Type 0} (grid grid' : Grid E) (table : Table E) → grid'.rows.items ≡ grid.rows.items ++ table ∷ [] → (j k : ℕ) (e : E) → IsIn grid' j k e → IsIn grid j k e ⊎ ((j ≡ length grid.rows.items) × IsAt table k e)
in_pushed {E} grid grid' table rows j k e is =
    let there = subst (λ (l : List (Table E)). slice_get l j ≡ Some is.0) rows is.1.0 in
    elim (pushed grid.rows.items table j is.0 there) [
      | inl h ↦ inl (is.0, (h, is.1.1))
      | inr h ↦ inr (h.0, subst (λ (t : Table E). IsAt t k e) h.1 is.1.1)
    ]

-- a grid with a row exchanged
pub in_exchanged : {E : Type 0} (grid grid' : Grid E) (row : ℕ) (table : Table E) → grid'.rows.items ≡ set grid.rows.items row table → (j k : ℕ) (e : E) → IsIn grid' j k e → IsIn grid j k e ⊎ ((j ≡ row) × IsAt table k e)
in_exchanged {E} grid grid' row table rows j k e is =
    let there = subst (λ (l : List (Table E)). slice_get l j ≡ Some is.0) rows is.1.0 in
    elim (exchanged grid.rows.items row table j is.0 there) [
      | inl h ↦ inl (is.0, (h, is.1.1))
      | inr h ↦ inr (h.0, subst (λ (t : Table E). IsAt t k e) h.1 is.1.1)
    ]

-- an exchanged element
pub get_set : {X : Type 0} (xs : List X) (p : ℕ) (x : X) → p < length xs → slice_get (set xs p x) p ≡ Some x
get_set [] p x within = absurd (omega (arith, within))
get_set (z ∷ zs) zero x within = refl
get_set (z ∷ zs) (suc p) x within = get_set zs p x (omega (arith, within))

-- what is true of all entries and of the one that is put is true of all entries then
pub all_still : {E : Type 0} (P : ℕ → E → Type 0) (old new : ℕ → E → Type 0) (number : ℕ) (entry : E) → IsPut old new number entry → ((k : ℕ) (e : E) → old k e → P k e) → P number entry → (k : ℕ) (e : E) → new k e → P k e
all_still {E} P old new number entry put stands own k e is =
    elim (put k e is) [
      | inl h ↦ stands k e h
      | inr h ↦ subst (λ (n : ℕ). P n e) (sym h.0) (subst (λ (x : E). P number x) (sym h.1) own)
    ]

-- the same of a grid
pub all_still_in : {E : Type 0} (P : ℕ → ℕ → E → Type 0) (old new : ℕ → ℕ → E → Type 0) (row number : ℕ) (entry : E) → IsPutIn old new row number entry → ((j k : ℕ) (e : E) → old j k e → P j k e) → P row number entry → (j k : ℕ) (e : E) → new j k e → P j k e
all_still_in {E} P old new row number entry put stands own j k e is =
    elim (put j k e is) [
      | inl h ↦ stands j k e h
      | inr h ↦ subst (λ (n : ℕ). P n k e) (sym h.0) (subst (λ (n : ℕ). P row n e) (sym h.1.0) (subst (λ (x : E). P row number x) (sym h.1.1) own))
    ]

-- ---- marks

pub same_number : (a b : ℕ) → nat_eq a b ≡ true → a ≡ b
same_number a b e = grind (arith, nat_tests)

pub not_one : (a : ℕ) → a ≡ 1 → nat_eq a 1 ≡ false → ⊥
not_one a e f = absurd (grind (arith, nat_tests, e, f))

abbrev pub IsSet : List ℕ → ℕ → Type 0
IsSet words number =
    (word : ℕ) × ((slice_get words (number / 64) ≡ Some word) × (bit_at word (number % 64) ≡ 1))

-- a word with the bit of a number set
abbrev with_bit : ℕ → ℕ → ℕ
with_bit word number = bit_or word (1 * 2 ^ (number % 64) % 2 ^ 64)

-- where a bit was set, its number is among them
pub marked_here : (words : List ℕ) (number word : ℕ) → slice_get words (number / 64) ≡ Some word → IsSet (set words (number / 64) (with_bit word number)) number
marked_here words number word there =
    let bit : number % 64 < 64 = omega arith in
    (with_bit word number, (get_set words (number / 64) _ (slice_get_within words (number / 64) word there), bit_at_set_same w64 word (number % 64) bit))

-- and no other that wasn't
pub marked_others : (words : List ℕ) (number word k : ℕ) → slice_get words (number / 64) ≡ Some word → IsSet (set words (number / 64) (with_bit word number)) k → IsSet words k ⊎ (k ≡ number)
marked_others words number word k there is = elim (exchanged words (number / 64) _ (k / 64) is.0 is.1.0) [
  | inl before ↦ inl (is.0, (before, is.1.1))
  | inr here ↦ elim (cases_eq (k % 64) (number % 64)) [
    | inl same ↦ inr (omega (arith, same, here.0))
    | inr other ↦
        let bit : number % 64 < 64 = omega arith in
        let stays = bit_at_set_other w64 word (number % 64) bit (k % 64) other in
        let was : bit_at word (k % 64) ≡ 1 = sym stays ∙ sym (ap (λ w. bit_at w (k % 64)) here.1) ∙ is.1.1 in
        inl (word, (subst (λ i. slice_get words i ≡ Some word) (sym here.0) there, was))
  ]
]

-- an element that isn't exchanged
get_other : {X : Type 0} (xs : List X) (p q : ℕ) (x : X) → (p ≡ q → ⊥) → slice_get (set xs p x) q ≡ slice_get xs q
get_other [] p q x other = refl
get_other (z ∷ zs) zero zero x other = absurd (other refl)
get_other (z ∷ zs) zero (suc q) x other = refl
get_other (z ∷ zs) (suc p) zero x other = refl
get_other (z ∷ zs) (suc p) (suc q) x other = get_other zs p q x (λ e. other (ap suc e))

-- and each that was set stays so
pub marked_still : (words : List ℕ) (number word k : ℕ) → slice_get words (number / 64) ≡ Some word → IsSet words k → IsSet (set words (number / 64) (with_bit word number)) k
marked_still words number word k there is = elim (cases_eq (number / 64) (k / 64)) [
  | inr other ↦ (is.0, (get_other words (number / 64) (k / 64) _ other ∙ is.1.0, is.1.1))
  | inl same ↦
      let within = slice_get_within words (number / 64) word there in
      let at = subst (λ i. slice_get (set words (number / 64) (with_bit word number)) i ≡ Some (with_bit word number)) same (get_set words (number / 64) (with_bit word number) within) in
      let is_word : word ≡ is.0 = same_Some word is.0 (sym there ∙ (ap (slice_get words) same ∙ is.1.0)) in
      let bit : number % 64 < 64 = omega arith in
      elim (cases_eq (k % 64) (number % 64)) [
        | inl alike ↦ (with_bit word number, (at, ap (bit_at (with_bit word number)) alike ∙ bit_at_set_same w64 word (number % 64) bit))
        | inr apart ↦ (with_bit word number, (at, bit_at_set_other w64 word (number % 64) bit (k % 64) apart ∙ (ap (λ w. bit_at w (k % 64)) is_word ∙ is.1.1)))
      ]
]

-- what is true of all numbers and of the new one is true of all numbers then
pub all_marked : (P : ℕ → Type 0) (old new : Marks) (number : ℕ) → ((k : ℕ) → IsMarked new k → IsMarked old k ⊎ (k ≡ number)) → ((k : ℕ) → IsMarked old k → P k) → P number → (k : ℕ) → IsMarked new k → P k
all_marked P old new number put all one k is = elim (put k is) [
  | inl before ↦ all k before
  | inr same ↦ subst P (sym same) one
]
