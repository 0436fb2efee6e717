-- Each answer of a step is what the rule says, after what was looked at before.
use Rattle.region_ends.proofs.Common.{◌≡◌, ℕ, zero, suc, ◌+◌, ◌-◌, ◌<◌, ◌≤◌, Bool, true, false, List, [], ◌∷◌, length, refl, sym, ap, ◌∙◌, arith, subst, Option, Some, None, pos, nat_lt, slice_get, reverse, take, get_or_from_slice_get, nat_tests, Looked, ItemId, Place, one_line, Text, line_at, Attempt, IsToldOn, ItemKind, Pattern, Painted, Done, looked_first, ◌>>=◌, done, first_found, refusal_of, Cause, Matched, TooCostly, place_at, item_of, RegionEnd, columns_from, Search, Skip, NoSkip, SkipTo, SkipLine, skip_of, ends_of, skip_at, tried_at, end_at, end_made, end_from, hull_assoc, refusal_bind, IsAttempted, IsTried, attempted, looks_at_end, columns, first_bind, refusal_first, seen, EndsBefore}
use Rattle.std.specs.Option.{option_map}
use Rattle.pattern_match.specs.declared.answer.Attempt.TheVariants as tried
use Rattle.region_ends.proofs.AttemptLaws.{within}
use Rattle.region_ends.proofs.CommonLaws.{last_first}

-- what stays on a text ends in a line that has a number
pub ends_before : (text : Text) (start : Place) (count : ℕ) (t : Attempt) → IsToldOn text start t → length text < count → EndsBefore count t
ends_before text start count (tried.Found m k) h few = omega (arith, h.0.whole.ends.line, few)
ends_before text start count (tried.Absent k) h few = tt
ends_before text start count tried.TooCostly h few = tt

pub seen_first : (i : ItemId) (looked : Looked) (p : Painted Cause (Option Matched)) (t : Attempt) → IsTried t i p → IsTried (seen looked t) i (looked_first (Some looked) (p >>= looks_at_end))
seen_first i looked p (tried.Found m k) h = rw h (ap (λ (l : Looked). Done (Some m) (Some l)) (sym (hull_assoc looked k (one_line (pos (m.to).line)))))
seen_first i looked p (tried.Absent k) h = rw h refl
seen_first i looked p tried.TooCostly h = refusal_first (Some looked) (p >>= looks_at_end) ∙ refusal_bind (TooCostly i) p looks_at_end h

-- a pattern tried at a column
pub tried_at_is : (s : Search) (pattern : Pattern) (c : ℕ) (looked : Looked) (t : Attempt) → pattern.lc ≤ c →
    IsAttempted t s.rules.budget (s.rules.attempt s.text pattern.tree (item_of s.rules.items s.item).ignore s.externals (place_at s.from.line (c - pattern.lc))) →
    IsTried (seen looked t) s.item (looked_first (Some looked) (tried_at s pattern c))
tried_at_is s pattern c looked t less h =
    let e : nat_lt c pattern.lc ≡ false = grind (arith, nat_tests, less) in
    let P : Bool → Type 0 = λ b. IsTried (seen looked t) s.item (looked_first (Some looked) (elim b as (λ _. Painted Cause (Option Matched)) [ true ↦ done None | false ↦ attempted s.rules s.text s.item s.externals pattern (place_at s.from.line (c - pattern.lc)) >>= looks_at_end ])) in
    subst P (sym e) (seen_first s.item looked _ t (within s.item s.rules.budget _ t h))

-- ---- the end patterns at a column

-- what the first of some gives, or those behind it
abbrev pub after_try : Search → Pattern → List Pattern → ℕ → Painted Cause (Option Matched) → Painted Cause (Option RegionEnd)
after_try s pattern rest c p = (p >>= (λ m. done (option_map (end_made s pattern) m)))
    >>= (λ found. elim found as (λ _. Painted Cause (Option RegionEnd)) [ None ↦ first_found (end_at s c) rest | Some b ↦ done (Some b) ])

pub first_end : (s : Search) (c : ℕ) (looked : Looked) (pattern : Pattern) (rest : List Pattern) →
    looked_first (Some looked) (first_found (end_at s c) (pattern ∷ rest)) ≡ after_try s pattern rest c (looked_first (Some looked) (tried_at s pattern c))
first_end s c looked pattern rest =
    let f = λ (m : Option Matched). done {E = Cause} (option_map (end_made s pattern) m) in
    let h = λ (found : Option RegionEnd). elim found as (λ _. Painted Cause (Option RegionEnd)) [ None ↦ first_found (end_at s c) rest | Some b ↦ done (Some b) ] in
    first_bind (Some looked) (tried_at s pattern c >>= f) h ∙ ap (λ p. p >>= h) (first_bind (Some looked) (tried_at s pattern c) f)

-- a turn over them, with those before it still to come
pub turn : (s : Search) (c : ℕ) (looked : Looked) (patterns : List Pattern) (left : ℕ) (pattern : Pattern) → 0 < left → left ≤ length patterns → Some pattern ≡ slice_get patterns (left - 1) →
    looked_first (Some looked) (first_found (end_at s c) (reverse (take left patterns))) ≡ after_try s pattern (reverse (take (left - 1) patterns)) c (looked_first (Some looked) (tried_at s pattern c))
turn s c looked patterns left pattern some most is =
    ap (λ ps. looked_first (Some looked) (first_found (end_at s c) ps)) (last_first patterns left pattern some most is)
    ∙ first_end s c looked pattern (reverse (take (left - 1) patterns))

-- columns before the one where the search goes on are passed over
pass : (s : Search) (kind : ItemKind) (d n c next : ℕ) → next ≡ c + d → d ≤ n → end_from s kind (columns c n) next ≡ end_from s kind (columns next (n - d)) next
pass s kind zero n c next e h =
    let f : c ≡ next = omega arith in
    let g : n ≡ n - 0 = omega arith in
    ap (λ c. end_from s kind (columns c n) next) f ∙ ap (λ n. end_from s kind (columns next n) next) g
pass s kind (suc d) zero c next e h = absurd (omega arith)
pass s kind (suc d) (suc n) c next e h =
    let passed : nat_lt c next ≡ true = grind (arith, nat_tests) in
    let g : n - d ≡ suc n - suc d = omega arith in
    ap (λ b. elim b as (λ _. Painted Cause (Option RegionEnd)) [ true ↦ end_from s kind (columns (suc c) n) next | false ↦ end_by s kind c (columns (suc c) n) ]) passed
    ∙ (pass s kind d n (suc c) next (omega arith) (omega arith) ∙ ap (λ n. end_from s kind (columns next n) next) g)
  where
    end_by : Search → ItemKind → ℕ → List ℕ → Painted Cause (Option RegionEnd)
    end_by s kind c cs = skip_at s (skip_of kind) c >>= (λ skip. elim skip as (λ _. Painted Cause (Option RegionEnd)) [ NoSkip ↦ first_found (end_at s c) (reverse (ends_of kind)) >>= (λ found. elim found as (λ _. Painted Cause (Option RegionEnd)) [ None ↦ end_from s kind cs (suc c) | Some e ↦ done (Some e) ]) | SkipTo next ↦ end_from s kind cs next | SkipLine ↦ done None ])

-- a column of the search
module _ (s : Search) (kind : ItemKind) (c last : ℕ) (looked : Looked) (less : c ≤ last) where
  abbrev pub whole : Painted Cause (Option RegionEnd)
  whole = looked_first (Some looked) (end_from s kind (columns_from c last) c)

  abbrev after_ends : Painted Cause (Option RegionEnd) → Painted Cause (Option RegionEnd)
  after_ends p = p >>= (λ found. elim found as (λ _. Painted Cause (Option RegionEnd)) [ None ↦ end_from s kind (columns_from (suc c) last) (suc c) | Some e ↦ done (Some e) ])

  abbrev after_skip : Skip → Painted Cause (Option RegionEnd)
  after_skip skip = elim skip as (λ _. Painted Cause (Option RegionEnd)) [ NoSkip ↦ after_ends (first_found (end_at s c) (reverse (ends_of kind))) | SkipTo next ↦ end_from s kind (columns_from (suc c) last) next | SkipLine ↦ done None ]

  at_column : whole ≡ looked_first (Some looked) (skip_at s (skip_of kind) c) >>= after_skip
  at_column =
      let n : suc last - c ≡ suc (suc last - suc c) = omega arith in
      let here : nat_lt c c ≡ false = grind (arith, nat_tests) in
      ap (λ n. looked_first (Some looked) (end_from s kind (columns c n) c)) n
      ∙ (ap (λ b. looked_first (Some looked) (elim b as (λ _. Painted Cause (Option RegionEnd)) [ true ↦ end_from s kind (columns_from (suc c) last) c | false ↦ skip_at s (skip_of kind) c >>= after_skip ])) here
      ∙ first_bind (Some looked) (skip_at s (skip_of kind) c) after_skip)

  go_on : (next : ℕ) → c < next → next ≤ suc last → end_from s kind (columns_from (suc c) last) next ≡ end_from s kind (columns_from next last) next
  go_on next h g =
      let n : (suc last - suc c) - (next - suc c) ≡ suc last - next = omega arith in
      pass s kind (next - suc c) (suc last - suc c) (suc c) next (omega arith) (omega arith) ∙ ap (λ n. end_from s kind (columns next n) next) n

  abbrev skipped : Painted Cause Skip
  skipped = looked_first (Some looked) (skip_at s (skip_of kind) c)

  pub to_next : (next : ℕ) (k : Looked) → skipped ≡ Done (SkipTo next) (Some k) → c < next → next ≤ suc last → whole ≡ looked_first (Some k) (end_from s kind (columns_from next last) next)
  to_next next k h a b = at_column ∙ (ap (λ p. p >>= after_skip) h ∙ ap (looked_first (Some k)) (go_on next a b))

  pub to_none : (k : Looked) → skipped ≡ Done SkipLine (Some k) → whole ≡ Done None (Some k)
  to_none k h = at_column ∙ ap (λ p. p >>= after_skip) h

  pub skip_costly : refusal_of skipped ≡ Some (TooCostly s.item) → refusal_of whole ≡ Some (TooCostly s.item)
  skip_costly h = ap refusal_of at_column ∙ refusal_bind (TooCostly s.item) skipped after_skip h

  module _ (k : Looked) (no_skip : skipped ≡ Done NoSkip (Some k)) where
    abbrev found : Painted Cause (Option RegionEnd)
    found = looked_first (Some k) (first_found (end_at s c) (reverse (ends_of kind)))

    to_ends : whole ≡ after_ends found
    to_ends = at_column ∙ (ap (λ p. p >>= after_skip) no_skip ∙ first_bind (Some k) (first_found (end_at s c) (reverse (ends_of kind))) _)

    pub to_end : (e : RegionEnd) (l : Looked) → found ≡ Done (Some e) (Some l) → whole ≡ Done (Some e) (Some l)
    to_end e l h = to_ends ∙ ap after_ends h

    pub to_later : (l : Looked) → found ≡ Done None (Some l) → whole ≡ looked_first (Some l) (end_from s kind (columns_from (suc c) last) (suc c))
    to_later l h = to_ends ∙ ap after_ends h

    pub ends_costly : refusal_of found ≡ Some (TooCostly s.item) → refusal_of whole ≡ Some (TooCostly s.item)
    ends_costly h = ap refusal_of to_ends ∙ refusal_bind (TooCostly s.item) found _ h

-- a line of a text
pub line_is : (text : List (List ℕ)) (l : ℕ) (line : List ℕ) → Some line ≡ slice_get text l → line_at text l ≡ line
line_is text l line e = get_or_from_slice_get text l line [] (sym e)

-- past the line's end there is no column
pub none_left : (s : Search) (kind : ItemKind) (c last : ℕ) (looked : Looked) → last < c → looked_first (Some looked) (end_from s kind (columns_from c last) c) ≡ Done None (Some looked)
none_left s kind c last looked h =
    let n : suc last - c ≡ 0 = omega arith in
    ap (λ n. looked_first (Some looked) (end_from s kind (columns c n) c)) n
