-- A search that goes from one candidate to the next: the columns between them are passed over.
use Rattle.std.proofs.Common.{◌≡◌, ◌<◌, ◌≤◌, ◌+◌, ◌-◌, ℕ, zero, suc, Bool, true, false, not, ◌||◌, List, [], length, max, ap, refl, sym, ◌∙◌, subst, arith, inl, inr}
use Rattle.std.specs.Prelude.{Option, Some, None, Ok, ◌⊎◌, nat_le, nat_lt, slice_get, if◌then◌else◌}
use Rattle.std.proofs.lemmas.Bool.Decides.{nat_tests}
use Rattle.std.proofs.lemmas.Option.{get_or_from_slice_get, slice_get_within}
use Rattle.char_class.specs.Bits.{has_code}
use Rattle.char_class.specs.declared.codes.Codes.{Codes}
use Rattle.char_class.specs.declared.sets.Sets.{Sets}
use Rattle.match_rules.specs.Atoms.{has_keyword}
use Rattle.match_rules.specs.Ways.{Text, line_at, place}
use Rattle.match_rules.specs.Attempt.{attempt}
use Rattle.pattern_screens.specs.declared.key.Next.TheVariants.{Code}
use Rattle.pattern_screens.specs.FailingLaw.{FailBefore}
use Rattle.pattern_screens.specs.FirstAtoms.{first_cost}
use Rattle.pattern_screens.specs.FirstLaw.{AreFirstSound}
use Rattle.pattern_screens.specs.Following.{takes_first}
use Rattle.pattern_screens.specs.Keys.{key_numbered, key_of, last_in, last_of, next_of, other_of}
use Rattle.pattern_needs.specs.Lacking.{IsNeedOf, Need, is_lacked}
use Rattle.pattern_needs.specs.NeedsLaw.{AreNeedsSound}
use Rattle.pattern_match.specs.declared.answer.Match.{Match}
use Rattle.ex_substitute.specs.Begins.{AreNeeds, AreSeconds, FailsBefore, IsNoSecond, Setting, is_screened, may_begin, may_follow, screen_passes}
use Rattle.ex_substitute.specs.Trials.{AreVain, IsVain, trial_in}
use Rattle.ex_substitute.specs.Trying.{Trial, Counts, tried, columns, places_in, first_of, is_counted_by}
use Rattle.ex_substitute.proofs.TryLaws.{none-left, passed-over, vain-tried}

-- ---- what stands at a column tells that an attempt is in vain

screened : (cheap passes : Bool) → (not cheap || passes) ≡ false → cheap ≡ true
screened true passes e = refl
screened false passes e = absurd (cc)

unpassed : (a passes : Bool) → (a || passes) ≡ false → passes ≡ false
unpassed true passes e = absurd (cc)
unpassed false passes e = e

pub in-vain : AreFirstSound → (s : Setting) (line : List ℕ) (col : ℕ) → may_begin s (slice_get line col) ≡ false → IsVain s line col
in-vain sound s line col unfit text number same =
    let t = trial_in text s in
    let passes = screen_passes s.tree s.context (slice_get line col) in
    let allowed : nat_le (first_cost s.tree.node) s.budget ≡ true = screened (nat_le (first_cost s.tree.node) s.budget) passes unfit in
    let fails : passes ≡ false = unpassed (not (is_screened s.tree s.budget)) passes unfit in
    let cheap : first_cost s.tree.node ≤ s.budget = grind (arith, nat_tests) in
    let vain = sound s.tree t.x number col (subst (λ (l : List ℕ). screen_passes s.tree s.context (slice_get l col) ≡ false) (sym same) fails) in
    let cost : (attempt t.tree t.x (place number col)).cost ≤ first_cost s.tree.node = vain.cost in
    vain-tried t (place number col) vain.way (omega arith)

-- ---- so does what stands behind it

last-behind : (sets : Sets) (line : List ℕ) (col n : ℕ) → n ≡ suc col → last_in sets line n ≡ last_of (has_keyword sets (slice_get line col))
last-behind sets line col n e = subst (λ m. last_in sets line m ≡ last_of (has_keyword sets (slice_get line col))) (sym e) refl

second-key : (sets : Sets) (line : List ℕ) (col c number : ℕ) (keyword : Bool) → has_keyword sets (slice_get line col) ≡ keyword → slice_get line (col + 1) ≡ Some c → c < 256 →
    key_numbered number ≡ record { next = Code c; last = last_of keyword } → key_numbered number ≡ key_of sets line (col + 1)
second-key sets line col c number keyword kind here low is =
    let small : nat_lt c 256 ≡ true = grind (arith, nat_tests) in
    let next : next_of sets (slice_get line (col + 1)) ≡ Code c = ap (next_of sets) here ∙ ap (λ b. if b then Code c else other_of (has_keyword sets (Some c))) small in
    let last : last_in sets line (col + 1) ≡ last_of keyword = last-behind sets line col (col + 1) (omega arith) ∙ ap last_of kind in
    is ∙ ap (λ n. record { next = n; last = last_of keyword }) (sym next) ∙ ap (λ l. record { next = next_of sets (slice_get line (col + 1)); last = l }) (sym last)

second-vain : FailBefore → (s : Setting) (line : List ℕ) (col c : ℕ) → IsNoSecond s c → slice_get line (col + 1) ≡ Some c → c < 256 → IsVain s line col
second-vain sound s line col c second here low text number same =
    by-kind (has_keyword s.context.sets.now (slice_get line col)) refl
  where
    t : Trial
    t = trial_in text s

    begins-there : (later : Bool) → takes_first later s.tree.node ≡ true
    begins-there false = second.begins.first
    begins-there true = second.begins.later

    within : col + 1 ≤ length (line_at text number)
    within = let inside : col + 1 < length line = slice_get_within line (col + 1) c here in omega (arith, ap (λ (l : List ℕ). length l) same)

    by-key : (keyword : Bool) → has_keyword s.context.sets.now (slice_get line col) ≡ keyword → FailsBefore s (last_of keyword) c → tried t (place number col) ≡ Ok None
    by-key keyword kind fails =
        let is = second-key s.context.sets.now line col c fails.0 keyword kind here low fails.1 in
        let vain = sound s.tree t.x s.budget number col fails.0 (begins-there (nat_lt 0 col))
        (record { within = within; is = subst (λ (l : List ℕ). key_numbered fails.0 ≡ key_of s.context.sets.now l (col + 1)) (sym same) is }) fails.2 in
        vain-tried t (place number col) vain.way vain.cost

    by-kind : (keyword : Bool) → has_keyword s.context.sets.now (slice_get line col) ≡ keyword → tried t (place number col) ≡ Ok None
    by-kind true kind = by-key true kind second.behind_keyword
    by-kind false kind = by-key false kind second.behind_other

pub follow-vain : FailBefore → (s : Setting) (codes : Codes) (line : List ℕ) (col : ℕ) → AreSeconds s codes → may_follow codes (slice_get line (col + 1)) ≡ false → IsVain s line col
follow-vain sound s codes line col seconds unfit = by-next (slice_get line (col + 1)) refl unfit
  where
    by-next : (next : Option ℕ) → slice_get line (col + 1) ≡ next → may_follow codes next ≡ false → IsVain s line col
    by-next None here e = absurd (cc)
    by-next (Some c) here e =
        let small : nat_lt c 256 ≡ true = screened (nat_lt c 256) (has_code codes c) e in
        let low : c < 256 = grind (arith, nat_tests) in
        second-vain sound s line col c (seconds c low (unpassed (not (nat_lt c 256)) (has_code codes c) e)) here low

-- one column more
pub vain-step : (s : Setting) (line : List ℕ) (from col : ℕ) → AreVain s line from col → IsVain s line col → AreVain s line from (col + 1)
vain-step s line from col before vain k low high = by-order (order k col)
  where
    order : (k col : ℕ) → (k < col) ⊎ (col ≤ k)
    order k col = grind arith

    by-order : (k < col) ⊎ (col ≤ k) → IsVain s line k
    by-order (inl h) = before k low h
    by-order (inr h) = let same : k ≡ col = omega arith in subst (λ (n : ℕ). IsVain s line n) (sym same) vain

-- no column
pub vain-none : (s : Setting) (line : List ℕ) (from : ℕ) → AreVain s line from from
vain-none s line from col low high = absurd (omega arith)

-- ---- columns that are passed over

all-passed-over : (t : Trial) (counts : Counts) (line end more from to : ℕ) → from + more ≡ to →
    ((col : ℕ) → from ≤ col → col < to → tried t (place line col) ≡ Ok None) →
    first_of t counts (columns line from (end - from)) ≡ first_of t counts (columns line to (end - to))
all-passed-over t counts line end zero from to e vain = let same : from ≡ to = omega arith in ap (λ n. first_of t counts (columns line n (end - n))) same
all-passed-over t counts line end (suc more) from to e vain =
    by-order (order from end) ∙ all-passed-over t counts line end more (from + 1) to (omega arith) (λ col low high. vain col (omega arith) high)
  where
    order : (from end : ℕ) → (from < end) ⊎ (end ≤ from)
    order from end = grind arith

    by-order : (from < end) ⊎ (end ≤ from) → first_of t counts (columns line from (end - from)) ≡ first_of t counts (columns line (from + 1) (end - (from + 1)))
    by-order (inl h) = passed-over t counts line from end None h (vain from (omega arith) (omega arith)) refl
    by-order (inr h) = none-left t counts line from end h ∙ sym (none-left t counts line (from + 1) end (omega arith))

line-of : (text : Text) (line : ℕ) (chars : List ℕ) → Some chars ≡ slice_get text line → line_at text line ≡ chars
line-of text line chars e = get_or_from_slice_get text line chars [] (sym e)

pub is-column : (text : Text) (line at : ℕ) (chars : List ℕ) → Some chars ≡ slice_get text line → at ≤ length chars → at < length (line_at text line) + 1
is-column text line at chars here within = let same : length (line_at text line) ≡ length chars = ap (λ (l : List ℕ). length l) (line-of text line chars here) in omega arith

-- up to the first candidate of a line
pub first-candidate : (text : Text) (s : Setting) (counts : Counts) (line col at : ℕ) (chars : List ℕ) → Some chars ≡ slice_get text line → col ≤ at → AreVain s chars col at →
    first_of (trial_in text s) counts (columns line at (length (line_at text line) + 1 - at)) ≡ first_of (trial_in text s) counts (places_in text line col)
first-candidate text s counts line col at chars here h vain =
    sym (all-passed-over (trial_in text s) counts line (length (line_at text line) + 1) (at - col) col at (omega arith)
    (λ k low high. vain k low high text line (line-of text line chars here)))

-- from a candidate whose match doesn't count to the next one
pub next-candidate : (text : Text) (s : Setting) (counts : Counts) (line at to : ℕ) (chars : List ℕ) (found : Option Match) → Some chars ≡ slice_get text line → at ≤ length chars →
    tried (trial_in text s) (place line at) ≡ Ok found → is_counted_by counts (place line at) found ≡ false → at + 1 ≤ to → AreVain s chars (at + 1) to →
    first_of (trial_in text s) counts (columns line to (length (line_at text line) + 1 - to)) ≡ first_of (trial_in text s) counts (columns line at (length (line_at text line) + 1 - at))
next-candidate text s counts line at to chars found here present told uncounted h vain =
    let end = length (line_at text line) + 1 in
    let same = line-of text line chars here in
    let within : at < end = is-column text line at chars here present in
    sym (passed-over (trial_in text s) counts line at end found within told uncounted
    ∙ all-passed-over (trial_in text s) counts line end (to - (at + 1)) (at + 1) to (omega arith) (λ k low high. vain k low high text line same))

-- behind the line's end there is none
pub no-candidate : (text : Text) (s : Setting) (counts : Counts) (line at : ℕ) (chars : List ℕ) → Some chars ≡ slice_get text line → length chars + 1 ≤ at →
    first_of (trial_in text s) counts (columns line at (length (line_at text line) + 1 - at)) ≡ Ok None
no-candidate text s counts line at chars here past =
    let same : length (line_at text line) ≡ length chars = ap (λ (l : List ℕ). length l) (line-of text line chars here) in
    none-left (trial_in text s) counts line at (length (line_at text line) + 1) (omega arith)

-- ---- lines that lack what the pattern needs

pub need-of : (s t : Setting) (o : Option Need) (need : Need) → AreNeeds s o → o ≡ Some need → s ≡ t → IsNeedOf t.context.sets.now t.context.ignore t.budget t.tree need
need-of s t o need h e same = subst (λ (r : Setting). AreNeeds r (Some need)) same (subst (λ (q : Option Need). AreNeeds s q) e h)

pub lacking-vain : AreNeedsSound → (s : Setting) (need : Need) (line : List ℕ) (from : ℕ) → IsNeedOf s.context.sets.now s.context.ignore s.budget s.tree need → is_lacked need line from ≡ true → AreVain s line from (length line + 1)
lacking-vain sound s need line from is lacked col low high text number same =
    let t = trial_in text s in
    let within : col ≤ length (line_at text number) = omega (arith, ap (λ (l : List ℕ). length l) same) in
    let vain = sound s.tree t.x s.budget need number from col is (subst (λ (l : List ℕ). is_lacked need l from ≡ true) (sym same) lacked) low within in
    vain-tried t (place number col) vain.way vain.cost

-- no match is found there
pub none-lacking : (text : Text) (s : Setting) (counts : Counts) (line at : ℕ) (chars : List ℕ) → Some chars ≡ slice_get text line → AreVain s chars at (length chars + 1) →
    first_of (trial_in text s) counts (columns line at (length (line_at text line) + 1 - at)) ≡ Ok None
none-lacking text s counts line at chars here vain =
    let same = line-of text line chars here in
    let end = length (line_at text line) + 1 in
    let to = max at (length chars + 1) in
    let past : end ≤ to = omega (arith, ap (λ (l : List ℕ). length l) same) in
    all-passed-over (trial_in text s) counts line end (to - at) at to (omega arith) (λ k low high. vain k low (omega arith) text line same)
    ∙ none-left (trial_in text s) counts line to end past
