-- The bounds of ranges, with case ignored: a code and its fold stand both before the letters of ASCII,
-- and are the same, or both among them, or both behind them.
use Rattle.std.proofs.Common.{◌≡◌, inl, inr, ℕ, ◌<◌, ◌≤◌, Bool, true, false, ◌&&◌, ◌||◌, eqb, refl, ◌⊎◌, arith, eqb-true}
use Rattle.std.proofs.lemmas.Bool.{and_parts, cases_lt, leb-true}
use Rattle.std.proofs.lemmas.Bool.Decides.{nat_tests}
use Rattle.std.specs.Prelude.{nat_le}
use Rattle.std.specs.List.{list_all, range_with_len}
use Rattle.ucd_case.proofs.Computing.{ucd_case}
use Rattle.unicode.specs.CaseFolding.{simple_fold}
use Rattle.char_class.specs.Folds.{capital_of, is_small_letter, lies_in, range_holds}
use Rattle.pattern_match.specs.Bounds.{LieIn, first_alike, last_alike}
use Rattle.pattern_match.proofs.CaseLaws.{holds_in}

lies_between : (low high c : ℕ) → lies_in low high c ≡ true → (low ≤ c) × (c ≤ high)
lies_between low high c e =
    let parts = and_parts (nat_le low c) (nat_le c high) e in
    (leb-true low c parts.0, leb-true c high parts.1)

-- ---- where folds stand

abbrev stays : ℕ → Bool
stays c = eqb (simple_fold c) c

all_stay : list_all stays (range_with_len 0 65) ≡ true
unfolding ucd_case
all_stay = refl

all_among : list_all (λ c. lies_in 65 122 (simple_fold c)) (range_with_len 65 58) ≡ true
unfolding ucd_case
all_among = refl

all_behind : list_all (λ c. nat_le 123 (simple_fold c)) (range_with_len 123 133) ≡ true
unfolding ucd_case
all_behind = refl

-- two codes before the letters of ASCII, where they are the same, or among them, or behind them
abbrev Alike : ℕ → ℕ → Type 0
Alike c d = ((c < 65) × (d ≡ c)) ⊎ (((65 ≤ c) × (c ≤ 122) × (65 ≤ d) × (d ≤ 122)) ⊎ ((123 ≤ c) × (123 ≤ d)))

fold_alike : (c : ℕ) → c < 256 → Alike c (simple_fold c)
fold_alike c within =
    elim (cases_lt c 65) [
      | inl before ↦ inl (before, eqb-true (simple_fold c) c (holds_in stays 0 65 c all_stay (omega arith) (omega arith)))
      | inr from ↦ elim (cases_lt c 123) [
        | inl to ↦
            let lies = lies_between 65 122 (simple_fold c) (holds_in (λ d. lies_in 65 122 (simple_fold d)) 65 58 c all_among from (omega arith)) in
            inr (inl (from, omega arith, lies.0, lies.1))
        | inr behind ↦ inr (inr (behind, leb-true 123 (simple_fold c) (holds_in (λ d. nat_le 123 (simple_fold d)) 123 133 c all_behind behind (omega arith))))
      ]
    ]

-- a letter is alike to its capital
capital_alike : (c d : ℕ) → Alike c d → is_small_letter d ≡ true → Alike c (capital_of d)
capital_alike c d alike small =
    let lies = lies_between 97 122 d small in
    elim alike [
      | inl before ↦ absurd (omega (arith, before.0, before.1, lies.0))
      | inr (inl among) ↦ inr (inl (among.0, among.1, omega (arith, lies.0, lies.1), omega (arith, lies.0, lies.1)))
      | inr (inr behind) ↦ absurd (omega (arith, behind.1, lies.1))
    ]

-- ---- the bounds of a range

first_below : (low c d : ℕ) → Alike c d → low ≤ d → first_alike low ≤ c
first_below low c d (inl before) h = grind (arith, nat_tests)
first_below low c d (inr (inl among)) h = grind (arith, nat_tests)
first_below low c d (inr (inr behind)) h = grind (arith, nat_tests)

last_above : (high c d : ℕ) → c < 256 → Alike c d → d ≤ high → c ≤ last_alike high
last_above high c d within (inl before) h = grind (arith, nat_tests)
last_above high c d within (inr (inl among)) h = grind (arith, nat_tests)
last_above high c d within (inr (inr behind)) h = grind (arith, nat_tests)

both_bounds : (low high c d : ℕ) → c < 256 → Alike c d → lies_in low high d ≡ true → (first_alike low ≤ c) × (c ≤ last_alike high)
both_bounds low high c d within alike lies =
    let is = lies_between low high d lies in
    (first_below low c d alike is.0, last_above high c d within alike is.1)

itself_alike : (c : ℕ) → Alike c c
itself_alike c = elim (cases_lt c 65) [
  | inl before ↦ inl (before, refl)
  | inr from ↦ elim (cases_lt c 123) [
    | inl to ↦ inr (inl (from, omega arith, from, omega arith))
    | inr behind ↦ inr (inr (behind, behind))
  ]
]

by_or : {P : Type 0} (a b c : Bool) → (a || b || c) ≡ true → (a ≡ true → P) → (b ≡ true → P) → (c ≡ true → P) → P
by_or true b c e f g h = f refl
by_or false true c e f g h = g refl
by_or false false true e f g h = h refl
by_or false false false e f g h = absurd (cc)

range_within : (low high c : ℕ) → c < 256 → range_holds low high c true ≡ true → (first_alike low ≤ c) × (c ≤ last_alike high)
unfolding range_holds
range_within low high c within holds =
    let folded = fold_alike c within in
    by_or (lies_in low high c) (lies_in low high (simple_fold c)) (is_small_letter (simple_fold c) && lies_in low high (capital_of (simple_fold c))) holds
    (λ e. both_bounds low high c c within (itself_alike c) e)
    (λ e. both_bounds low high c (simple_fold c) within folded e)
    (λ e. let parts = and_parts (is_small_letter (simple_fold c)) (lies_in low high (capital_of (simple_fold c))) e in
    both_bounds low high c (capital_of (simple_fold c)) within (capital_alike c (simple_fold c) folded parts.0) parts.1)

pub range_lies_in : (low high : ℕ) → LieIn (λ c. range_holds low high c true) (first_alike low) (last_alike high)
range_lies_in low high = record {
  from = λ c within holds. (range_within low high c within holds).0;
  to = λ c within holds. (range_within low high c within holds).1;
}
