-- Laws of sets: a set by its test, and one bit of its words that is set or cleared.
use Rattle.std.proofs.Common.{◌≡◌, ◌≢◌, inl, inr, ℕ, zero, suc, ◌+◌, ◌*◌, ◌/◌, ◌%◌, ◌^◌, ◌<◌, ◌≤◌, Bool, true, false, cond, ◌&&◌, not, eqb, ltb, List, [], ◌∷◌, length, get_or, set, refl, sym, ap, ◌∙◌, arith, eq-eqb, get_or-set_same, get_or-set_other}
use Rattle.std.specs.Prelude.{filter, bit_and, bit_or}
use Rattle.std.specs.List.{list_any, range_with_len}
use Rattle.std.specs.Int.{bit_at, bit_not, w64}
use Rattle.std.proofs.lemmas.Bool.{cases_eq, cases_lt, lt-ltb, ne_eqb}
use Rattle.std.proofs.lemmas.Bool.Decides.{nat_tests}
use Rattle.std.proofs.lemmas.Nat.Bits.{bit_at_set_same, bit_at_set_other, bit_at_clear_same, bit_at_clear_other}
use Rattle.char_class.specs.CharSet.{low_codes, set_where, is_member}
use Rattle.char_class.specs.Bits.{has_bit, members_in}
use Rattle.char_class.specs.OptionValue.{is_named, with_part}
use Rattle.char_class.specs.SoFar.{bounds_of}
use Rattle.char_class.specs.declared.option_value.Members.{Members}
use Rattle.char_class.specs.declared.option_value.Members.TheVariants.{Letters, Codes}
use Rattle.char_class.specs.declared.option_value.Part.{Part}

-- ---- a set by its test

-- no code before the first one is a member
before_all : (test : ℕ → Bool) (c a n : ℕ) → c < a → list_any (λ k. eqb k c) (filter test (range_with_len a n)) ≡ false
before_all test c a zero before = refl
before_all test c a (suc n) before =
    let rest = before_all test c (a + 1) n (omega arith) in
    let here : eqb a c ≡ false = ne_eqb a c (λ e. omega arith) in
    elim (test a) as (λ t. list_any (λ k. eqb k c) (cond t (a ∷ filter test (range_with_len (a + 1) n)) (filter test (range_with_len (a + 1) n))) ≡ false)
    [ true ↦ rw here rest | false ↦ rest ]

any_where : (test : ℕ → Bool) (c a n : ℕ) → a ≤ c → c < a + n → list_any (λ k. eqb k c) (filter test (range_with_len a n)) ≡ test c
any_where test c a zero low high = absurd (omega arith)
any_where test c a (suc n) low high =
    let rest = filter test (range_with_len (a + 1) n) in
    let first : (t : Bool) → test a ≡ t → c ≡ a → list_any (λ k. eqb k c) (cond t (a ∷ rest) rest) ≡ test c = λ t was e.
    let is : eqb a c ≡ true = eq-eqb a c (sym e) in
    let none = before_all test c (a + 1) n (omega arith) in
    let same : t ≡ test c = sym was ∙ ap test (sym e) in
    elim t as (λ u. u ≡ test c → list_any (λ k. eqb k c) (cond u (a ∷ rest) rest) ≡ test c)
    [ true ↦ λ h. rw is h | false ↦ λ h. none ∙ h ] same in
    let later : (t : Bool) → (c ≡ a → ⊥) → list_any (λ k. eqb k c) (cond t (a ∷ rest) rest) ≡ test c = λ t ne.
    let isnt : eqb a c ≡ false = ne_eqb a c (λ e. ne (sym e)) in
    let found = any_where test c (a + 1) n (omega arith) (omega arith) in
    elim t as (λ u. list_any (λ k. eqb k c) (cond u (a ∷ rest) rest) ≡ test c)
    [ true ↦ rw isnt found | false ↦ found ] in
    elim (cases_eq c a) [ inl e ↦ first (test a) refl e | inr ne ↦ later (test a) ne ]

pub is_member-set_where : (test : ℕ → Bool) (c : ℕ) → c < 256 → is_member (set_where test) c ≡ test c
unfolding is_member low_codes
is_member-set_where test c within = any_where test c 0 256 (omega arith) within

filter-same : (p q : ℕ → Bool) (a n : ℕ) → ((c : ℕ) → c < a + n → p c ≡ q c) → filter p (range_with_len a n) ≡ filter q (range_with_len a n)
filter-same p q a zero same = refl
filter-same p q a (suc n) same =
    let rest = filter-same p q (a + 1) n (λ c within. same c (omega arith)) in
    let here = same a (omega arith) in
    rw (here, rest) refl

-- tests that agree below 256 have one set
pub set_where-same : (p q : ℕ → Bool) → ((c : ℕ) → c < 256 → p c ≡ q c) → set_where p ≡ set_where q
unfolding low_codes
set_where-same p q same = filter-same p q 0 256 same

filter-none : (xs : List ℕ) → filter (λ c. false) xs ≡ []
filter-none [] = refl
filter-none (x ∷ xs) = filter-none xs

-- ---- the bits of a set

pub no_members : members_in (0 ∷ 0 ∷ 0 ∷ 0 ∷ []) ≡ []
unfolding members_in has_bit low_codes
no_members = refl

-- one word changed, and in it at most the bit of k
has_bit-set : (words : List ℕ) (k c w : ℕ) (b : Bool) → k / 64 < length words → eqb (bit_at w (k % 64)) 1 ≡ b → ((i : ℕ) → i < 64 → i ≢ k % 64 → bit_at w i ≡ bit_at (get_or words (k / 64) 0) i) → has_bit (set words (k / 64) w) c ≡ cond (eqb c k) b (has_bit words c)
unfolding has_bit
has_bit-set words k c w b within here others =
    elim (cases_eq c k) [
      | inl e ↦
          let yes : eqb c k ≡ true = eq-eqb c k e in
          rw (yes, e, get_or-set_same words (k / 64) w 0 within) here
      | inr ne ↦
          let no : eqb c k ≡ false = ne_eqb c k ne in
          rw no (elim (cases_eq (c / 64) (k / 64)) [
            | inl same ↦
                let bit_ne : c % 64 ≢ k % 64 = λ e. ne (omega arith) in
                let same_bit = others (c % 64) (omega arith) bit_ne in
                rw (same, get_or-set_same words (k / 64) w 0 within) (ap (λ n. eqb n 1) same_bit)
            | inr other ↦ rw (get_or-set_other words (k / 64) (c / 64) w 0 other) refl
          ])
    ]

pub has_bit-put : (words : List ℕ) (k c : ℕ) → k / 64 < length words → has_bit (set words (k / 64) (bit_or (get_or words (k / 64) 0) (1 * 2 ^ (k % 64) % 2 ^ 64))) c ≡ cond (eqb c k) true (has_bit words c)
has_bit-put words k c within =
    let bit : k % 64 < 64 = omega arith in
    has_bit-set words k c _ true within (eq-eqb _ _ (bit_at_set_same w64 (get_or words (k / 64) 0) (k % 64) bit))
    (λ i under ne. bit_at_set_other w64 (get_or words (k / 64) 0) (k % 64) bit i ne)

pub has_bit-cut : (words : List ℕ) (k c : ℕ) → k / 64 < length words → has_bit (set words (k / 64) (bit_and (get_or words (k / 64) 0) (bit_not w64 (1 * 2 ^ (k % 64) % 2 ^ 64)))) c ≡ cond (eqb c k) false (has_bit words c)
has_bit-cut words k c within =
    let bit : k % 64 < 64 = omega arith in
    has_bit-set words k c _ false within (ap (λ n. eqb n 1) (bit_at_clear_same w64 (get_or words (k / 64) 0) (k % 64) bit))
    (λ i under ne. bit_at_clear_other w64 (get_or words (k / 64) 0) (k % 64) bit i under ne)

pub is_member-members_in : (words : List ℕ) (c : ℕ) → c < 256 → is_member (members_in words) c ≡ has_bit words c
unfolding members_in
is_member-members_in words c within = is_member-set_where (has_bit words) c within

-- the words after a code was put in, and after it was taken out
pub has_bit-put_at : (words : List ℕ) (at k w : ℕ) (b : Bool) (c : ℕ) → at ≡ k / 64 → k < 256 → length words ≡ 4 → b ≡ true → w ≡ bit_or (get_or words at 0) (1 * 2 ^ (k % 64) % 2 ^ 64) → has_bit (set words at w) c ≡ cond (eqb c k) b (has_bit words c)
has_bit-put_at words at k w b c where_is within long is e =
    let inside : k / 64 < length words = omega arith in
    rw (e, where_is, is) (has_bit-put words k c inside)

pub has_bit-cut_at : (words : List ℕ) (at k w : ℕ) (b : Bool) (c : ℕ) → at ≡ k / 64 → k < 256 → length words ≡ 4 → b ≡ false → w ≡ bit_and (get_or words at 0) (bit_not w64 (1 * 2 ^ (k % 64) % 2 ^ 64)) → has_bit (set words at w) c ≡ cond (eqb c k) b (has_bit words c)
has_bit-cut_at words at k w b c where_is within long is e =
    let inside : k / 64 < length words = omega arith in
    rw (e, where_is, is) (has_bit-cut words k c inside)

-- ---- what a part names

-- no code below the least or above the greatest of its codes is named
pub is_named-below : (members : Members) (c : ℕ) → c < (bounds_of members).0 → is_named members c ≡ false
is_named-below Letters c below = absurd (omega arith)
is_named-below (Codes first last) c below = grind (arith, nat_tests)

pub is_named-above : (members : Members) (c : ℕ) → c < 256 → (bounds_of members).1 < c → is_named members c ≡ false
is_named-above Letters c within above = absurd (omega arith)
is_named-above (Codes first last) c within above = grind (arith, nat_tests)

cond-and_true : (a b x y : Bool) → b ≡ true → cond (a && b) x y ≡ cond a x y
cond-and_true true b x y e = rw e refl
cond-and_true false b x y e = refl

cond-and_false : (a b x y : Bool) → a ≡ false → cond (a && b) x y ≡ cond a x y
cond-and_false a b x y e = rw e refl

-- a part is applied once no code that it names is left
pub members_in-applied : (old words : List ℕ) (part : Part) (code : ℕ) → ((c : ℕ) → has_bit words c ≡ cond (is_named part.members c && ltb c code) (not part.taken_out) (has_bit old c)) → (bounds_of part.members).1 < code → members_in words ≡ with_part (members_in old) part
unfolding members_in with_part
members_in-applied old words part code changed done =
    set_where-same _ _ (λ c within.
    let above : code ≤ c → is_named part.members c ≡ false = λ h. is_named-above part.members c within (omega arith) in
    let member = is_member-members_in old c within in
    changed c ∙ rw member (elim (cases_lt c code) [
      | inl below ↦ cond-and_true (is_named part.members c) (ltb c code) _ _ (lt-ltb c code below)
      | inr from ↦ cond-and_false (is_named part.members c) (ltb c code) _ _ (above from)
    ]))

-- one more code is put in or taken out
pub one_more_code : (named out old : Bool) (c code : ℕ) → cond (named && eqb c code) out (cond (named && ltb c code) out old) ≡ cond (named && ltb c (code + 1)) out old
one_more_code true out old c code = grind (arith, nat_tests)
one_more_code false out old c code = refl
