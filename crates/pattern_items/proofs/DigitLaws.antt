-- A number of at most nine digits is below 10 ^ 9; and the digits in front of a text.
use Rattle.std.proofs.Common.{◌≡◌, ℕ, zero, suc, ◌+◌, ◌-◌, ◌*◌, ◌≤◌, ◌<◌, List, [], ◌∷◌, length, take, drop, get_or, refl, ap, sym, ◌∙◌, arith, leb-true, Bool, true, false, cond}
use Rattle.std.specs.Prelude.{◌&&◌, nat_le}
use Rattle.std.specs.Char.{digit_value}
use Rattle.std.specs.List.{list_all, prefix_len}
use Rattle.std.specs.Str.Parse.{digits_value_after}
use Rattle.std.proofs.Math.Nat.{mul-le-mul_right, mul_assoc, le-mul_of_pos_right}
use Rattle.std.proofs.Math.Seq.{drop-cons}
use Rattle.std.proofs.lemmas.Str.{digit_value_digit}
use Rattle.pattern_items.specs.Numbers.{is_digit}

-- the powers of ten
abbrev pub tens : ℕ → ℕ
tens zero = 1
tens (suc k) = 10 * tens k

tens_some : (k : ℕ) → 1 ≤ tens k
tens_some zero = omega arith
tens_some (suc k) = omega (arith, tens_some k)

-- with so many digits to come, a number stays within this bound
fits_now : (n k most : ℕ) → (n + 1) * tens k ≤ most → n + 1 ≤ most
fits_now n k most fits =
    let more : n + 1 ≤ (n + 1) * tens k = le-mul_of_pos_right (n + 1) (omega (arith, tens_some k)) in
    omega (arith, more, fits)

pub fits_next : (n d k most : ℕ) → d ≤ 9 → (n + 1) * tens (suc k) ≤ most → (n * 10 + d + 1) * tens k ≤ most
fits_next n d k most digit fits =
    let more : (n * 10 + d + 1) * tens k ≤ (n + 1) * 10 * tens k = mul-le-mul_right (tens k) (omega (arith, digit)) in
    let same : (n + 1) * 10 * tens k ≡ (n + 1) * (10 * tens k) = mul_assoc (n + 1) 10 (tens k) in
    omega (arith, more, same, fits)

-- so its next digit has room
pub fits_more : (n d k most : ℕ) → d ≤ 9 → (n + 1) * tens (suc k) ≤ most → n * 10 + d + 1 ≤ most
fits_more n d k most digit fits = fits_now (n * 10 + d) k most (fits_next n d k most digit fits)

-- each of the first digits is one
front_step : (c : ℕ) (cs : List ℕ) (digit : Bool) → is_digit c ≡ digit → list_all is_digit (take (prefix_len is_digit cs) cs) ≡ true → list_all is_digit (take (cond digit (1 + prefix_len is_digit cs) 0) (c ∷ cs)) ≡ true
front_step c cs true is rest =
    let next : 1 + prefix_len is_digit cs ≡ suc (prefix_len is_digit cs) = omega arith in
    rw (next, is) rest
front_step c cs false is rest = refl

pub all_in_front : (text : List ℕ) → list_all is_digit (take (prefix_len is_digit text) text) ≡ true
all_in_front [] = refl
all_in_front (c ∷ cs) = front_step c cs (is_digit c) refl (all_in_front cs)

both : (a b : Bool) → (a && b) ≡ true → (a ≡ true) × (b ≡ true)
both true b is = (refl, is)
both false b is = absurd (cc)

-- an element of digits is one
digit_at : (digits : List ℕ) (i digit : ℕ) → list_all is_digit digits ≡ true → i < length digits → digit ≡ get_or digits i digit → is_digit digit ≡ true
digit_at [] i digit all within at = absurd (omega arith)
digit_at (c ∷ cs) zero digit all within at = ap is_digit at ∙ (both (is_digit c) (list_all is_digit cs) all).0
digit_at (c ∷ cs) (suc i) digit all within at = digit_at cs i digit (both (is_digit c) (list_all is_digit cs) all).1 (omega arith) at

-- what a digit is worth
pub record IsWorth (c : ℕ) : Type 0 where
  pub least : 48 ≤ c
  pub most : c ≤ 57
  pub value : digit_value c ≡ c - 48

pub worth_at : (digits : List ℕ) (i digit : ℕ) → list_all is_digit digits ≡ true → i < length digits → digit ≡ get_or digits i digit → IsWorth digit
worth_at digits i digit all within at =
    let is = both (nat_le 48 digit) (nat_le digit 57) (digit_at digits i digit all within at) in
    let low : 48 ≤ digit = leb-true 48 digit is.0 in
    let high : digit ≤ 57 = leb-true digit 57 is.1 in
    let value = digit_value_digit digit (low, high) in
    record { least = low; most = high; value = omega arith }

-- one digit is read
pub digit_read : (number : ℕ) (digits : List ℕ) (i digit : ℕ) → i < length digits → digit ≡ get_or digits i digit → IsWorth digit → digits_value_after 10 number (drop i digits) ≡ digits_value_after 10 (number * 10 + (digit - 48)) (drop (i + 1) digits)
digit_read number digits i digit within at worth =
    let next : i + 1 ≡ suc i = omega arith in
    rw (drop-cons digits i digit within, sym at, next) (ap (λ v. digits_value_after 10 (number * 10 + v) (drop (suc i) digits)) worth.value)
