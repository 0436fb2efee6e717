-- Each line number is read to the lines that it names.
use Rattle.std.proofs.Common.{◌≡◌, ℕ, ◌+◌, ◌<◌, ◌≤◌, length, take, drop, List, [], ◌∷◌, ◌++◌, Bool, true, false, None, refl, ap, ◌∙◌, append_assoc, arith, length-append}
use Rattle.std.specs.Prelude.{◌||◌, nat_eq, nat_le, if◌then◌else◌, codes}
use Rattle.std.specs.List.{prefix_len}
use Rattle.std.specs.Str.Parse.{AllDigits, IsNumeral, digits_value}
use Rattle.std.proofs.Math.Seq.{take-append_seam, drop-append_seam}
use Rattle.std.proofs.lemmas.Bool.{le-leb, lt-leb, cond-true, cond-false, ne_eqb}
use Rattle.std.proofs.lemmas.Str.Parse.{digit_from_value}
use Rattle.pattern_items.specs.declared.atom.Atom.TheVariants.{LineNumber}
use Rattle.pattern_items.specs.declared.atom.Compare.{Compare}
use Rattle.pattern_items.specs.declared.atom.Compare.TheVariants.{At, Before, After}
use Rattle.pattern_items.specs.declared.cause.PatternCause.TheVariants.{BadCode}
use Rattle.pattern_items.specs.declared.item.Level.{Level}
use Rattle.pattern_items.specs.declared.item.Level.TheVariants.{VeryNo, No, Usual, Very}
use Rattle.pattern_items.specs.declared.item.Sign.TheVariants as sign
use Rattle.pattern_items.specs.declared.item.Spelled.{Spelled}
use Rattle.pattern_items.specs.declared.item.Surroundings.{Surroundings}
use Rattle.pattern_items.specs.Codes.{notation_of}
use Rattle.pattern_items.specs.Counts.{IsRead}
use Rattle.pattern_items.specs.LineNumbers.{opening, sign_of, written}
use Rattle.pattern_items.specs.Numbers.{is_digit, front_digits, behind_digits}
use Rattle.pattern_items.specs.Place.{placed, in_place}
use Rattle.pattern_items.specs.Spelling.{atom, wrong, line_number, with_unit, positioned, compared, code_or, percent, spelling}
use Rattle.pattern_items.proofs.CountLaws.{Stops, one_digit, some_digits}

-- The digits at the front.

front_len : (ds r : List ℕ) → AllDigits 10 ds → Stops r → prefix_len is_digit (ds ++ r) ≡ length ds
front_len [] [] all stops = refl
front_len [] (c ∷ cs) all stops = cond-false (is_digit c) (1 + prefix_len is_digit cs) 0 stops
front_len (d ∷ ds) r all stops =
    cond-true (is_digit d) (1 + prefix_len is_digit (ds ++ r)) 0 (one_digit d all.0).0
    ∙ (let rest : prefix_len is_digit (ds ++ r) ≡ length ds = front_len ds r all.1 stops in
    let more : 1 + prefix_len is_digit (ds ++ r) ≡ length (d ∷ ds) = omega arith in more)

digits_in_front : (ds r : List ℕ) → AllDigits 10 ds → Stops r → front_digits (ds ++ r) ≡ ds
digits_in_front ds r all stops = ap (λ n. take n (ds ++ r)) (front_len ds r all stops) ∙ take-append_seam ds r

behind_them : (ds r : List ℕ) → AllDigits 10 ds → Stops r → behind_digits (ds ++ r) ≡ r
behind_them ds r all stops = ap (λ n. drop n (ds ++ r)) (front_len ds r all stops) ∙ drop-append_seam ds r

-- what digits and their letter are
abbrev by_parts : ℕ → Compare → List ℕ → List ℕ → Spelled
by_parts n how digits rest = if nat_eq (length digits) 0 then wrong BadCode n else with_unit n how digits rest

number_positioned : (n : ℕ) (how : Compare) (ds more : List ℕ) → IsNumeral 10 ds → positioned n how (ds ++ (108 ∷ more)) ≡ line_number n how ds
number_positioned n how ds more num =
    ap (λ digits. by_parts n how digits (behind_digits (ds ++ (108 ∷ more)))) (digits_in_front ds (108 ∷ more) num.1 refl)
    ∙ ap (λ rest. by_parts n how ds rest) (behind_them ds (108 ∷ more) num.1 refl)
    ∙ cond-false (nat_eq (length ds) 0) (wrong BadCode n) (with_unit n how ds (108 ∷ more)) (some_digits (length ds) num.0)

-- Behind the percent sign.

passed : (test : Bool) (s t u : Spelled) → test ≡ false → t ≡ u → (if test then s else t) ≡ u
passed true s t u e f = cc
passed false s t u e f = f

neither : (a b : Bool) → a ≡ false → b ≡ false → (a || b) ≡ false
neither true b e f = e
neither false b e f = f

digit_compared : (n : ℕ) (how : Compare) (d : ℕ) (cs : List ℕ) → 48 ≤ d → d ≤ 57 → compared n how (d ∷ cs) ≡ positioned n how (d ∷ cs)
digit_compared n how d cs low high = passed (nat_eq d 39) _ _ _ (ne_eqb d 39 (λ e. omega arith)) refl

-- no digit names a notation
no_notation : (d : ℕ) → 48 ≤ d → d ≤ 57 → notation_of d ≡ None
no_notation d low high =
    rw (
      ne_eqb d 100 (λ e. omega arith),
      ne_eqb d 111 (λ e. omega arith),
      ne_eqb d 120 (λ e. omega arith),
      ne_eqb d 117 (λ e. omega arith),
      ne_eqb d 85 (λ e. omega arith),
    ) refl

-- a digit stands for no item of its own
digit_percent : (first : Bool) (n d : ℕ) (cs : List ℕ) → 48 ≤ d → d ≤ 57 → percent first n (d ∷ cs) ≡ positioned n At (d ∷ cs)
digit_percent first n d cs low high =
    passed (nat_eq d 40) _ _ _ (ne_eqb d 40 (λ e. omega arith)) (
    passed (nat_eq d 91) _ _ _ (ne_eqb d 91 (λ e. omega arith)) (
    passed (nat_eq d 94) _ _ _ (ne_eqb d 94 (λ e. omega arith)) (
    passed (nat_eq d 36) _ _ _ (ne_eqb d 36 (λ e. omega arith)) (
    passed (nat_eq d 86 || nat_eq d 67) _ _ _ (neither (nat_eq d 86) (nat_eq d 67) (ne_eqb d 86 (λ e. omega arith)) (ne_eqb d 67 (λ e. omega arith))) (
    passed (nat_eq d 35) _ _ _ (ne_eqb d 35 (λ e. omega arith)) (
    passed (nat_eq d 39) _ _ _ (ne_eqb d 39 (λ e. omega arith)) (
    passed (nat_eq d 60) _ _ _ (ne_eqb d 60 (λ e. omega arith)) (
    passed (nat_eq d 62) _ _ _ (ne_eqb d 62 (λ e. omega arith)) (
    ap (code_or n d cs) (no_notation d low high))))))))))

-- what stands behind the percent sign is a number of so many characters before it
sign_read : (first : Bool) (n : ℕ) (how : Compare) (d : ℕ) (cs : List ℕ) → 48 ≤ d → d ≤ 57 → percent first n (sign_of how ++ (d ∷ cs)) ≡ positioned (n + length (sign_of how)) how (d ∷ cs)
sign_read first n At d cs low high = digit_percent first n d cs low high ∙ ap (λ k. positioned k At (d ∷ cs)) (let e : n ≡ n + 0 = omega arith in e)
sign_read first n Before d cs low high = digit_compared (n + 1) Before d cs low high
sign_read first n After d cs low high = digit_compared (n + 1) After d cs low high

numeral_read : (first : Bool) (n : ℕ) (how : Compare) (ds r : List ℕ) → IsNumeral 10 ds → percent first n (sign_of how ++ (ds ++ r)) ≡ positioned (n + length (sign_of how)) how (ds ++ r)
numeral_read first n how [] r num = absurd (let bad : 0 < 0 = num.0 in omega arith)
numeral_read first n how (d ∷ ds) r num = let range = digit_from_value d num.1.0 in sign_read first n how d (ds ++ r) range.0 range.1

-- The whole line number.

opening_spelled : (first : Bool) (level : Level) (t : List ℕ) → spelling first level (opening level ++ t) ≡ percent first (length (opening level)) t
opening_spelled first Very t = refl
opening_spelled first Usual t = refl
opening_spelled first No t = refl
opening_spelled first VeryNo t = refl

parted : (level : Level) (how : Compare) (ds more : List ℕ) → written level how ds ++ more ≡ opening level ++ (sign_of how ++ (ds ++ (108 ∷ more)))
parted level how ds more =
    append_assoc (opening level) (sign_of how ++ (ds ++ codes "l")) more
    ∙ ap (λ t. opening level ++ t) (append_assoc (sign_of how) (ds ++ codes "l") more)
    ∙ ap (λ t. opening level ++ (sign_of how ++ t)) (append_assoc ds (codes "l") more)

-- how many characters stand before the digits
abbrev before_digits : Level → Compare → ℕ
before_digits level how = length (opening level) + length (sign_of how)

whole_len : (level : Level) (how : Compare) (ds : List ℕ) → before_digits level how + length ds + 1 ≡ length (written level how ds)
whole_len level how ds =
    let a = length-append (opening level) (sign_of how ++ (ds ++ codes "l")) in
    let b = length-append (sign_of how) (ds ++ codes "l") in
    let c : length (ds ++ codes "l") ≡ length ds + 1 = length-append ds (codes "l") in
    omega arith

number_spelled : (first : Bool) (level : Level) (how : Compare) (ds more : List ℕ) → IsNumeral 10 ds → spelling first level (written level how ds ++ more) ≡ line_number (before_digits level how) how ds
number_spelled first level how ds more num =
    ap (spelling first level) (parted level how ds more)
    ∙ opening_spelled first level (sign_of how ++ (ds ++ (108 ∷ more)))
    ∙ numeral_read first (length (opening level)) how ds (108 ∷ more) num
    ∙ number_positioned (before_digits level how) how ds more num

pub line_number_is_read : (x : Surroundings) (how : Compare) (ds more : List ℕ) → IsNumeral 10 ds → length ds ≤ 9 →
    IsRead x (written x.level how ds ++ more) (sign.Atom (LineNumber how (digits_value 10 ds))) (length (written x.level how ds))
line_number_is_read x how ds more num few =
    let text = written x.level how ds ++ more in
    let e : spelling x.first x.level text ≡ atom (LineNumber how (digits_value 10 ds)) (before_digits x.level how + length ds + 1) =
    number_spelled x.first x.level how ds more num
    ∙ cond-true (nat_le (length ds) 9) (atom (LineNumber how (digits_value 10 ds)) (before_digits x.level how + length ds + 1)) (wrong BadCode (before_digits x.level how)) (le-leb (length ds) 9 few)
    in
    record { sign = ap (λ s. in_place x text s.len s.raw) e; len = ap (λ s. s.len) e ∙ whole_len x.level how ds }

pub long_line_number_is_refused : (x : Surroundings) (how : Compare) (ds more : List ℕ) → IsNumeral 10 ds → 9 < length ds →
    (placed x (written x.level how ds ++ more)).sign ≡ sign.Wrong 0 BadCode
long_line_number_is_refused x how ds more num many =
    let text = written x.level how ds ++ more in
    let e : spelling x.first x.level text ≡ wrong BadCode (before_digits x.level how) =
    number_spelled x.first x.level how ds more num
    ∙ cond-false (nat_le (length ds) 9) (atom (LineNumber how (digits_value 10 ds)) (before_digits x.level how + length ds + 1)) (wrong BadCode (before_digits x.level how)) (lt-leb (length ds) 9 many)
    in
    ap (λ s. in_place x text s.len s.raw) e
