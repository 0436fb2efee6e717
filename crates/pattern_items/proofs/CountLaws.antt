-- Each form of a count is read to what it stands for.
use Rattle.std.proofs.Common.{◌≡◌, ℕ, ◌+◌, ◌-◌, ◌*◌, ◌<◌, ◌≤◌, length, List, [], ◌∷◌, ◌++◌, Bool, true, false, Some, None, refl, ap, sym, ◌∙◌, append_assoc, arith, inl, inr, length-append, min, max}
use Rattle.std.specs.Prelude.{Option, nat_eq, nat_lt, nat_le, cond, if◌then◌else◌, codes, unwrap_or}
use Rattle.std.specs.Char.{digit_value}
use Rattle.std.specs.Str.Parse.{AllDigits, IsNumeral, digits_value_after}
use Rattle.std.proofs.lemmas.Bool.{le-leb, lt-leb, leb-false, leb-true, ltb-true, ltb-false, and_from, cond-true, cond-false, ne_eqb}
use Rattle.std.proofs.lemmas.Str.{digit_value_digit}
use Rattle.std.proofs.lemmas.Str.Parse.{digit_from_value}
use Rattle.pattern_items.specs.declared.cause.PatternCause.TheVariants.{BadCount}
use Rattle.pattern_items.specs.declared.item.Level.{Level}
use Rattle.pattern_items.specs.declared.item.Level.TheVariants.{VeryNo, No, Usual, Very}
use Rattle.pattern_items.specs.declared.item.Times.{Times}
use Rattle.pattern_items.specs.declared.item.Multi.{Multi}
use Rattle.pattern_items.specs.declared.item.Multi.TheVariants.{Count}
use Rattle.pattern_items.specs.declared.item.Raw.TheVariants as raw
use Rattle.pattern_items.specs.declared.item.Sign.TheVariants as sign
use Rattle.pattern_items.specs.declared.item.Spelled.{Spelled}
use Rattle.pattern_items.specs.declared.item.Surroundings.{Surroundings}
use Rattle.pattern_items.specs.Numbers.{is_digit, with_digit, digits_after, digits}
use Rattle.pattern_items.specs.Multis.{times, count, multi, bad_count, brace_end, closed, with_most, alone, with_comma, with_least, braces}
use Rattle.pattern_items.specs.Counts.{Form, both, exactly, at_least, at_most, any, between, opening, hyphen_if, closing_brace, written, AreNumerals, number, least_of, most_of, AreSmall, IsOneLarge, count_of, IsRead}
use Rattle.pattern_items.specs.Spelling.{spelling}
use Rattle.pattern_items.specs.Place.{placed, in_place}

-- Digits.

-- a number, where it isn't too large
abbrev bounded : ℕ → Option ℕ
bounded n = if nat_le n 65535 then Some n else None

bounded_small : (n : ℕ) → n ≤ 65535 → bounded n ≡ Some n
bounded_small n h = cond-true (nat_le n 65535) (Some n) None (le-leb n 65535 h)

bounded_large : (n : ℕ) → 65535 < n → bounded n ≡ None
bounded_large n h = cond-false (nat_le n 65535) (Some n) None (lt-leb n 65535 h)

-- what stops a number
abbrev pub Stops : List ℕ → Type 0
Stops [] = Unit {0}
Stops (c ∷ cs) = is_digit c ≡ false

pub one_digit : (c : ℕ) → digit_value c < 10 → (is_digit c ≡ true) × (c - 48 ≡ digit_value c)
one_digit c h =
    let r = digit_from_value c h in
    let v = digit_value_digit c r in
    (and_from (nat_le 48 c) (nat_le c 57) (le-leb 48 c r.0) (le-leb c 57 r.1), omega arith)

one_more : (n d : ℕ) → with_digit (bounded n) d ≡ bounded (n * 10 + d)
one_more n d = by_test (nat_le n 65535) refl
  where
    by_test : (b : Bool) → nat_le n 65535 ≡ b → with_digit (if b then Some n else None) d ≡ bounded (n * 10 + d)
    by_test true e = refl
    by_test false e = sym (bounded_large (n * 10 + d) (let h = leb-false n 65535 e in omega arith))

digits_stop : (n k : ℕ) (r : List ℕ) → Stops r → digits_after (bounded n) k r ≡ record { value = bounded n; count = k; rest = r }
digits_stop n k [] h = refl
digits_stop n k (c ∷ cs) h = rw (h, digits_after) refl

digits_from : (n k : ℕ) (ds r : List ℕ) → AllDigits 10 ds → Stops r →
    digits_after (bounded n) k (ds ++ r) ≡ record { value = bounded (digits_value_after 10 n ds); count = k + length ds; rest = r }
digits_from n k [] r a h = digits_stop n k r h ∙ ap (λ m. record { value = bounded n; count = m; rest = r }) (let e : k ≡ k + 0 = omega arith in e)
digits_from n k (d ∷ ds) r a h =
    let one = one_digit d a.0 in
    step (is_digit d) one.0
    ∙ ap (λ v. digits_after v (k + 1) (ds ++ r)) (ap (λ e. with_digit (bounded n) e) one.1 ∙ one_more n (digit_value d))
    ∙ digits_from (n * 10 + digit_value d) (k + 1) ds r a.1 h
    ∙ ap (λ m. record { value = bounded (digits_value_after 10 (n * 10 + digit_value d) ds); count = m; rest = r }) (let e : k + 1 + length ds ≡ k + length (d ∷ ds) = omega arith in e)
  where
    step : (b : Bool) → b ≡ true →
        elim b [ true ↦ digits_after (with_digit (bounded n) (d - 48)) (k + 1) (ds ++ r) | false ↦ record { value = bounded n; count = k; rest = d ∷ (ds ++ r) } ]
        ≡ digits_after (with_digit (bounded n) (d - 48)) (k + 1) (ds ++ r)
    step true e = refl
    step false e = cc

-- the digits of a number, and what stops it
digits_are : (ds r : List ℕ) → AllDigits 10 ds → Stops r → digits (ds ++ r) ≡ record { value = bounded (number ds); count = length ds; rest = r }
digits_are ds r a h = digits_from 0 0 ds r a h ∙ ap (λ m. record { value = bounded (number ds); count = m; rest = r }) (let e : 0 + length ds ≡ length ds = omega arith in e)

-- Counts.

-- what stands behind the numbers
abbrev Brace : Bool → List ℕ → List ℕ
Brace escaped more = closing_brace escaped ++ more

brace_stops : (escaped : Bool) (more : List ℕ) → Stops (Brace escaped more)
brace_stops true more = refl
brace_stops false more = refl

brace_closes : (n : ℕ) (m : Multi) (escaped : Bool) (more : List ℕ) → closed n m (brace_end (Brace escaped more)) ≡ multi m (n + length (closing_brace escaped))
brace_closes n m true more = refl
brace_closes n m false more = refl

-- the smaller of two numbers is the least
abbrev some_times : ℕ → ℕ → Bool → Times
some_times least most lazy = record { least = least; most = Some most; lazy = lazy }

times_are : (n m : ℕ) (lazy : Bool) → times n (Some m) lazy ≡ some_times (min n m) (max n m) lazy
times_are n m lazy = by_test (nat_lt m n) refl
  where
    by_test : (b : Bool) → nat_lt m n ≡ b → cond b (some_times m n lazy) (some_times n m lazy) ≡ some_times (min n m) (max n m) lazy
    by_test true e =
        let h : m < n = ltb-true m n e in
        let low : m ≡ min n m = omega arith in
        let high : n ≡ max n m = omega arith in
        λ i. record { least = low i; most = Some (high i); lazy = lazy }
    by_test false e =
        let h : n ≤ m = ltb-false m n e in
        let low : n ≡ min n m = omega arith in
        let high : m ≡ max n m = omega arith in
        λ i. record { least = low i; most = Some (high i); lazy = lazy }

pub some_digits : (k : ℕ) → 0 < k → nat_eq k 0 ≡ false
some_digits k h = ne_eqb k 0 (λ e. omega arith)

most_by : (n : ℕ) (o : Option ℕ) (lazy : Bool) (k v : ℕ) (r : List ℕ) → nat_eq k 0 ≡ false →
    with_most n o lazy (record { value = Some v; count = k; rest = r }) ≡ closed (n + k) (count (unwrap_or o 0) (Some v) lazy) (brace_end r)
most_by n o lazy k v r e = rw (e, with_most) refl

most_large : (n : ℕ) (o : Option ℕ) (lazy : Bool) (k : ℕ) (r : List ℕ) → nat_eq k 0 ≡ false → with_most n o lazy (record { value = None; count = k; rest = r }) ≡ bad_count n
most_large n o lazy k r e = rw (e, with_most) refl

least_by : (n : ℕ) (lazy : Bool) (k v : ℕ) (r : List ℕ) → nat_eq k 0 ≡ false → with_least n lazy (record { value = Some v; count = k; rest = r }) ≡ with_comma (n + k) (Some v) lazy r
least_by n lazy k v r e = rw (e, with_least) refl

least_large : (n : ℕ) (lazy : Bool) (k : ℕ) (r : List ℕ) → nat_eq k 0 ≡ false → with_least n lazy (record { value = None; count = k; rest = r }) ≡ bad_count n
least_large n lazy k r e = rw (e, with_least) refl

-- the second number, behind the comma
most_read : (n : ℕ) (o : Option ℕ) (lazy : Bool) (m : List ℕ) (escaped : Bool) (more : List ℕ) → IsNumeral 10 m → number m ≤ 65535 →
    with_most n o lazy (digits (m ++ Brace escaped more)) ≡ multi (count (unwrap_or o 0) (Some (number m)) lazy) (n + length m + length (closing_brace escaped))
most_read n o lazy m escaped more num small =
    ap (with_most n o lazy) (digits_are m (Brace escaped more) num.1 (brace_stops escaped more))
    ∙ ap (λ v. with_most n o lazy (record { value = v; count = length m; rest = Brace escaped more })) (bounded_small (number m) small)
    ∙ most_by n o lazy (length m) (number m) (Brace escaped more) (some_digits (length m) num.0)
    ∙ brace_closes (n + length m) (count (unwrap_or o 0) (Some (number m)) lazy) escaped more

most_refused : (n : ℕ) (o : Option ℕ) (lazy : Bool) (m : List ℕ) (escaped : Bool) (more : List ℕ) → IsNumeral 10 m → 65535 < number m →
    with_most n o lazy (digits (m ++ Brace escaped more)) ≡ bad_count n
most_refused n o lazy m escaped more num large =
    ap (with_most n o lazy) (digits_are m (Brace escaped more) num.1 (brace_stops escaped more))
    ∙ ap (λ v. with_most n o lazy (record { value = v; count = length m; rest = Brace escaped more })) (bounded_large (number m) large)
    ∙ most_large n o lazy (length m) (Brace escaped more) (some_digits (length m) num.0)

-- no second number
no_most : (n v : ℕ) (lazy escaped : Bool) (more : List ℕ) → with_most n (Some v) lazy (digits (Brace escaped more)) ≡ multi (count v None lazy) (n + length (closing_brace escaped))
no_most n v lazy true more = refl
no_most n v lazy false more = refl

no_comma : (n : ℕ) (o : Option ℕ) (lazy escaped : Bool) (more : List ℕ) → with_comma n o lazy (Brace escaped more) ≡ multi (alone o lazy) (n + length (closing_brace escaped))
no_comma n o lazy true more = refl
no_comma n o lazy false more = refl

no_number : (n : ℕ) (lazy escaped : Bool) (more : List ℕ) → with_least n lazy (digits (Brace escaped more)) ≡ with_comma n None lazy (Brace escaped more)
no_number n lazy true more = refl
no_number n lazy false more = refl

-- the first number, with what follows it
least_read : (n : ℕ) (lazy : Bool) (a r : List ℕ) → IsNumeral 10 a → number a ≤ 65535 → Stops r → with_least n lazy (digits (a ++ r)) ≡ with_comma (n + length a) (Some (number a)) lazy r
least_read n lazy a r num small stops =
    ap (with_least n lazy) (digits_are a r num.1 stops)
    ∙ ap (λ v. with_least n lazy (record { value = v; count = length a; rest = r })) (bounded_small (number a) small)
    ∙ least_by n lazy (length a) (number a) r (some_digits (length a) num.0)

least_refused : (n : ℕ) (lazy : Bool) (a r : List ℕ) → IsNumeral 10 a → 65535 < number a → Stops r → with_least n lazy (digits (a ++ r)) ≡ bad_count n
least_refused n lazy a r num large stops =
    ap (with_least n lazy) (digits_are a r num.1 stops)
    ∙ ap (λ v. with_least n lazy (record { value = v; count = length a; rest = r })) (bounded_large (number a) large)
    ∙ least_large n lazy (length a) r (some_digits (length a) num.0)

abbrev Times_of : Form → Bool → Times
Times_of form lazy = record { least = least_of form; most = most_of form; lazy = lazy }

-- what stands between the braces, behind a hyphen
form_read : (n : ℕ) (lazy : Bool) (form : Form) (escaped : Bool) (more : List ℕ) → AreNumerals form → AreSmall form →
    with_least n lazy (digits (between form ++ Brace escaped more)) ≡ multi (Count (Times_of form lazy)) (n + length (between form) + length (closing_brace escaped))
form_read n lazy (both a b) escaped more num small =
    ap (λ t. with_least n lazy (digits t)) (append_assoc a (44 ∷ b) (Brace escaped more))
    ∙ least_read n lazy a (44 ∷ (b ++ Brace escaped more)) num.0 small.0 refl
    ∙ most_read (n + length a + 1) (Some (number a)) lazy b escaped more num.1 small.1
    ∙ ap (λ t. multi (Count t) (n + length a + 1 + length b + length (closing_brace escaped))) (times_are (number a) (number b) lazy)
    ∙ ap (λ k. multi (Count (Times_of (both a b) lazy)) k)
    (let e : length (a ++ (44 ∷ b)) ≡ length a + length (44 ∷ b) = length-append a (44 ∷ b) in
    let f : n + length a + 1 + length b + length (closing_brace escaped) ≡ n + length (a ++ (44 ∷ b)) + length (closing_brace escaped) = omega arith in f)
form_read n lazy (exactly a) escaped more num small =
    least_read n lazy a (Brace escaped more) num small (brace_stops escaped more)
    ∙ no_comma (n + length a) (Some (number a)) lazy escaped more
    ∙ ap (λ t. multi (Count t) (n + length a + length (closing_brace escaped))) (times_are (number a) (number a) lazy)
    ∙ (λ i. multi (Count (record {
      least = (let e : min (number a) (number a) ≡ number a = omega arith in e) i;
      most = Some ((let e : max (number a) (number a) ≡ number a = omega arith in e) i);
      lazy = lazy;
    })) (n + length a + length (closing_brace escaped)))
form_read n lazy (at_least a) escaped more num small =
    ap (λ t. with_least n lazy (digits t)) (append_assoc a (44 ∷ []) (Brace escaped more))
    ∙ least_read n lazy a (44 ∷ Brace escaped more) num small refl
    ∙ no_most (n + length a + 1) (number a) lazy escaped more
    ∙ ap (λ k. multi (Count (Times_of (at_least a) lazy)) k)
    (let e = length-append a (codes ",") in
    let f : n + length a + 1 + length (closing_brace escaped) ≡ n + length (a ++ codes ",") + length (closing_brace escaped) = omega arith in f)
form_read n lazy (at_most b) escaped more num small =
    most_read (n + 1) None lazy b escaped more num small
    ∙ ap (λ t. multi (Count t) (n + 1 + length b + length (closing_brace escaped))) (times_are 0 (number b) lazy)
    ∙ (λ i. multi (Count (record {
      least = (let e : min 0 (number b) ≡ 0 = omega arith in e) i;
      most = Some ((let e : max 0 (number b) ≡ number b = omega arith in e) i);
      lazy = lazy;
    })) ((let f : n + 1 + length b + length (closing_brace escaped) ≡ n + length (44 ∷ b) + length (closing_brace escaped) = omega arith in f) i))
form_read n lazy any escaped more num small =
    no_number n lazy escaped more ∙ no_comma n None lazy escaped more
    ∙ ap (λ k. multi (Count (Times_of any lazy)) k) (let f : n + length (closing_brace escaped) ≡ n + 0 + length (closing_brace escaped) = omega arith in f)

-- a number that is too large
record IsBad (s : Spelled) : Type 0 where
  is : s.raw ≡ raw.Wrong BadCount

bad_by : (s : Spelled) (n : ℕ) → s ≡ bad_count n → IsBad s
bad_by s n e = record { is = ap (λ t. t.raw) e }

second_bad : (n : ℕ) (lazy : Bool) (a b : List ℕ) (escaped : Bool) (more : List ℕ) → IsNumeral 10 a → IsNumeral 10 b → 65535 < number b → (small : Bool) → nat_le (number a) 65535 ≡ small →
    IsBad (with_least n lazy (digits (a ++ (44 ∷ (b ++ Brace escaped more)))))
second_bad n lazy a b escaped more num other large true e =
    bad_by _ (n + length a + 1) (least_read n lazy a (44 ∷ (b ++ Brace escaped more)) num (leb-true (number a) 65535 e) refl ∙ most_refused (n + length a + 1) (Some (number a)) lazy b escaped more other large)
second_bad n lazy a b escaped more num other large false e =
    bad_by _ n (least_refused n lazy a (44 ∷ (b ++ Brace escaped more)) num (leb-false (number a) 65535 e) refl)

form_refused : (n : ℕ) (lazy : Bool) (form : Form) (escaped : Bool) (more : List ℕ) → AreNumerals form → IsOneLarge form → IsBad (with_least n lazy (digits (between form ++ Brace escaped more)))
form_refused n lazy (both a b) escaped more num (inl large) =
    bad_by _ n (ap (λ t. with_least n lazy (digits t)) (append_assoc a (44 ∷ b) (Brace escaped more)) ∙ least_refused n lazy a (44 ∷ (b ++ Brace escaped more)) num.0 large refl)
form_refused n lazy (both a b) escaped more num (inr large) =
    rw (append_assoc a (44 ∷ b) (Brace escaped more)) (second_bad n lazy a b escaped more num.0 num.1 large (nat_le (number a) 65535) refl)
form_refused n lazy (exactly a) escaped more num large = bad_by _ n (least_refused n lazy a (Brace escaped more) num large (brace_stops escaped more))
form_refused n lazy (at_least a) escaped more num large =
    bad_by _ n (ap (λ t. with_least n lazy (digits t)) (append_assoc a (44 ∷ []) (Brace escaped more)) ∙ least_refused n lazy a (44 ∷ Brace escaped more) num large refl)
form_refused n lazy (at_most b) escaped more num large = bad_by _ (n + 1) (most_refused (n + 1) None lazy b escaped more num large)
form_refused n lazy any escaped more num large = absurd large

-- The whole count.

opening_spelled : (first : Bool) (level : Level) (t : List ℕ) → spelling first level (opening level ++ t) ≡ braces (length (opening level)) t
opening_spelled first Very t = refl
opening_spelled first Usual t = refl
opening_spelled first No t = refl
opening_spelled first VeryNo t = refl

-- no number and no brace begins with a hyphen
abbrev NoHyphen : List ℕ → Type 0
NoHyphen [] = ⊥
NoHyphen (c ∷ cs) = nat_eq c 45 ≡ false

digit_front : (ds r : List ℕ) → IsNumeral 10 ds → NoHyphen (ds ++ r)
digit_front [] r num = absurd (let bad : 0 < 0 = num.0 in omega arith)
digit_front (d ∷ ds) r num = let h = digit_from_value d num.1.0 in ne_eqb d 45 (λ e. omega arith)

brace_front : (escaped : Bool) (more : List ℕ) → NoHyphen (Brace escaped more)
brace_front true more = refl
brace_front false more = refl

form_front : (form : Form) (escaped : Bool) (more : List ℕ) → AreNumerals form → NoHyphen (between form ++ Brace escaped more)
form_front (both a b) escaped more num = rw (append_assoc a (44 ∷ b) (Brace escaped more)) (digit_front a (44 ∷ (b ++ Brace escaped more)) num.0)
form_front (exactly a) escaped more num = digit_front a (Brace escaped more) num
form_front (at_least a) escaped more num = rw (append_assoc a (44 ∷ []) (Brace escaped more)) (digit_front a (44 ∷ Brace escaped more) num)
form_front (at_most b) escaped more num = refl
form_front any escaped more num = brace_front escaped more

no_hyphen : (k : ℕ) (t : List ℕ) → NoHyphen t → braces k t ≡ with_least k false (digits t)
no_hyphen k [] h = absurd h
no_hyphen k (c ∷ cs) h = rw (h, braces) refl

braces_hyphen : (k : ℕ) (lazy : Bool) (t : List ℕ) → NoHyphen t → braces k (hyphen_if lazy ++ t) ≡ with_least (k + length (hyphen_if lazy)) lazy (digits t)
braces_hyphen k true t h = refl
braces_hyphen k false t h = no_hyphen k t h ∙ ap (λ n. with_least n false (digits t)) (let e : k ≡ k + 0 = omega arith in e)

-- the whole text, with its parts one behind the other
parted : (level : Level) (lazy : Bool) (form : Form) (escaped : Bool) (more : List ℕ) →
    written level lazy form escaped ++ more ≡ opening level ++ (hyphen_if lazy ++ (between form ++ Brace escaped more))
parted level lazy form escaped more =
    append_assoc (opening level) (hyphen_if lazy ++ (between form ++ closing_brace escaped)) more
    ∙ ap (λ t. opening level ++ t) (append_assoc (hyphen_if lazy) (between form ++ closing_brace escaped) more)
    ∙ ap (λ t. opening level ++ (hyphen_if lazy ++ t)) (append_assoc (between form) (closing_brace escaped) more)

whole_len : (level : Level) (lazy : Bool) (form : Form) (escaped : Bool) →
    length (opening level) + length (hyphen_if lazy) + length (between form) + length (closing_brace escaped) ≡ length (written level lazy form escaped)
whole_len level lazy form escaped =
    let a = length-append (opening level) (hyphen_if lazy ++ (between form ++ closing_brace escaped)) in
    let b = length-append (hyphen_if lazy) (between form ++ closing_brace escaped) in
    let c = length-append (between form) (closing_brace escaped) in
    omega arith

count_reads : (first : Bool) (level : Level) (lazy : Bool) (form : Form) (escaped : Bool) (more : List ℕ) → AreNumerals form →
    spelling first level (written level lazy form escaped ++ more) ≡ with_least (length (opening level) + length (hyphen_if lazy)) lazy (digits (between form ++ Brace escaped more))
count_reads first level lazy form escaped more num =
    ap (spelling first level) (parted level lazy form escaped more)
    ∙ opening_spelled first level (hyphen_if lazy ++ (between form ++ Brace escaped more))
    ∙ braces_hyphen (length (opening level)) lazy (between form ++ Brace escaped more) (form_front form escaped more num)

count_spelled : (first : Bool) (level : Level) (lazy : Bool) (form : Form) (escaped : Bool) (more : List ℕ) → AreNumerals form → AreSmall form →
    spelling first level (written level lazy form escaped ++ more) ≡ multi (Count (Times_of form lazy)) (length (written level lazy form escaped))
count_spelled first level lazy form escaped more num small =
    count_reads first level lazy form escaped more num
    ∙ form_read (length (opening level) + length (hyphen_if lazy)) lazy form escaped more num small
    ∙ ap (λ k. multi (Count (Times_of form lazy)) k) (whole_len level lazy form escaped)

pub count_is_read : (x : Surroundings) (lazy : Bool) (form : Form) (escaped : Bool) (more : List ℕ) → AreNumerals form → AreSmall form →
    IsRead x (written x.level lazy form escaped ++ more) (count_of lazy form) (length (written x.level lazy form escaped))
count_is_read x lazy form escaped more num small =
    let text = written x.level lazy form escaped ++ more in
    let e = count_spelled x.first x.level lazy form escaped more num small in
    record { sign = ap (λ s. in_place x text s.len s.raw) e; len = ap (λ s. s.len) e }

pub large_is_refused : (x : Surroundings) (lazy : Bool) (form : Form) (escaped : Bool) (more : List ℕ) → AreNumerals form → IsOneLarge form →
    (placed x (written x.level lazy form escaped ++ more)).sign ≡ sign.Wrong 0 BadCount
large_is_refused x lazy form escaped more num large =
    let text = written x.level lazy form escaped ++ more in
    let e = count_reads x.first x.level lazy form escaped more num in
    let bad = form_refused (length (opening x.level) + length (hyphen_if lazy)) lazy form escaped more num large in
    ap (λ r. in_place x text (spelling x.first x.level text).len r) (ap (λ s. s.raw) e ∙ bad.is)
