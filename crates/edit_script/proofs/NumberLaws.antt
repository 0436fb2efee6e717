-- A number of at most 18 digits is below 10 ^ 18; and the digits in front of a text.
use Rattle.std.proofs.Common.{◌≡◌, ℕ, zero, suc, ◌+◌, ◌-◌, ◌*◌, ◌≤◌, ◌<◌, List, [], ◌∷◌, length, take, drop, get_or, refl, ap, sym, ◌∙◌, arith, leb-true, Bool, true, false, cond}
use Rattle.std.specs.Prelude.{◌&&◌, nat_le}
use Rattle.std.specs.List.{list_all, prefix_len}
use Rattle.std.proofs.Math.Nat.{mul-le-mul_right, mul_assoc, le-mul_of_pos_right}
use Rattle.std.proofs.Math.Seq.{drop-cons}
use Rattle.text_scan.specs.Characters.{is_digit}
use Rattle.edit_script.specs.Addresses.{number_behind}

-- the powers of ten
abbrev pub tens : ℕ → ℕ
tens zero = 1
tens (suc k) = 10 * tens k

pub tens_some : (k : ℕ) → 1 ≤ tens k
tens_some zero = omega arith
tens_some (suc k) = omega (arith, tens_some k)

-- with so many digits to come, a number stays within this bound
pub fits_now : (n k most : ℕ) → (n + 1) * tens k ≤ most → n + 1 ≤ most
fits_now n k most fits =
    let more : n + 1 ≤ (n + 1) * tens k = le-mul_of_pos_right (n + 1) (omega (arith, tens_some k)) in
    omega (arith, more, fits)

pub fits_next : (n d k most : ℕ) → d ≤ 9 → (n + 1) * tens (suc k) ≤ most → (n * 10 + d + 1) * tens k ≤ most
fits_next n d k most digit fits =
    let more : (n * 10 + d + 1) * tens k ≤ (n + 1) * 10 * tens k = mul-le-mul_right (tens k) (omega (arith, digit)) in
    let same : (n + 1) * 10 * tens k ≡ (n + 1) * (10 * tens k) = mul_assoc (n + 1) 10 (tens k) in
    omega (arith, more, same, fits)

-- each of the first digits is one
front_step : (c : ℕ) (cs : List ℕ) (digit : Bool) → is_digit c ≡ digit → list_all is_digit (take (prefix_len is_digit cs) cs) ≡ true → list_all is_digit (take (cond digit (1 + prefix_len is_digit cs) 0) (c ∷ cs)) ≡ true
front_step c cs true is rest =
    let next : 1 + prefix_len is_digit cs ≡ suc (prefix_len is_digit cs) = omega arith in
    rw (next, is) rest
front_step c cs false is rest = refl

pub all_in_front : (text : List ℕ) → list_all is_digit (take (prefix_len is_digit text) text) ≡ true
all_in_front [] = refl
all_in_front (c ∷ cs) = front_step c cs (is_digit c) refl (all_in_front cs)

-- one digit is read
pub digit_read : (number : ℕ) (digits : List ℕ) (i digit : ℕ) → i < length digits → digit ≡ get_or digits i digit → number_behind number (drop i digits) ≡ number_behind (number * 10 + (digit - 48)) (drop (i + 1) digits)
digit_read number digits i digit within at =
    let next : i + 1 ≡ suc i = omega arith in
    rw (drop-cons digits i digit within, sym at, next) refl

both : (a b : Bool) → (a && b) ≡ true → (a ≡ true) × (b ≡ true)
both true b is = (refl, is)
both false b is = absurd (cc)

-- an element of digits is one
digit_at : (digits : List ℕ) (i digit : ℕ) → list_all is_digit digits ≡ true → i < length digits → digit ≡ get_or digits i digit → is_digit digit ≡ true
digit_at [] i digit all within at = absurd (omega arith)
digit_at (c ∷ cs) zero digit all within at = ap is_digit at ∙ (both (is_digit c) (list_all is_digit cs) all).0
digit_at (c ∷ cs) (suc i) digit all within at = digit_at cs i digit (both (is_digit c) (list_all is_digit cs) all).1 (omega arith) at

pub digit_small : (digits : List ℕ) (i digit : ℕ) → list_all is_digit digits ≡ true → i < length digits → digit ≡ get_or digits i digit → digit - 48 ≤ 9
digit_small digits i digit all within at =
    let is = both (nat_le 48 digit) (nat_le digit 57) (digit_at digits i digit all within at) in
    omega (arith, leb-true digit 57 is.1)
