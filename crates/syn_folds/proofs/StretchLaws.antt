-- The folds are exactly the longest stretches, in order.
use Rattle.std.proofs.Common.{◌≡◌, ℕ, zero, suc, ◌+◌, ◌-◌, ◌<◌, ◌≤◌, ◌↔◌, List, [], ◌∷◌, ◌++◌, length, get_or, drop, true, false, refl, ap, sym, subst, inl, inr, ◌∙◌, arith, length-append, length-drop, drop-cons}
use Rattle.std.specs.List.{All, AllPairs, Contains, range_with_len}
use Rattle.std.specs.Prelude.{nat_le}
use Rattle.std.proofs.lemmas.Bool.{cases_eq, cases_lt, le-leb, leb-false, leb-true, lt-leb}
use Rattle.std.proofs.lemmas.List.{get_or-append_right, get_or-drop, get_or_append_left}
use Rattle.std.proofs.lemmas.List.Elements.{All-append, All-contains, All-map, All-nil, All-weaker, Contains-append_cases, Contains-append_left, Contains-append_right, Contains-get_or}
use Rattle.std.proofs.lemmas.List.FromFn.{get_or-map-range_with_len, length-map-range_with_len}
use Rattle.std.proofs.lemmas.List.Sums.{prefix_len-le-length, prefix_len_is, prefix_len_passes, prefix_len_stops}
use Rattle.syn_folds.specs.declared.stretches.Fold.{Fold}
use Rattle.syn_folds.specs.Folds.{begun_at, fold_at, folds_from, folds_of, stretch}
use Rattle.syn_folds.specs.Laws.{IsBefore, IsFold}
use Rattle.syn_folds.proofs.BegunLaws.{stretch_on}

-- the level of the line before one, 0 before the first
abbrev level_before : List ℕ → ℕ → ℕ
level_before levels zero = 0
level_before levels (suc line) = get_or levels line 0

-- what the folds that begin at a line are: one for each level up to that of the line
pub record BeginsAt (line before level : ℕ) (levels : List ℕ) (f : Fold) : Type 0 where
  pub above : before < f.level
  pub within : f.level ≤ level
  pub is : f ≡ fold_at line levels f.level

pub begins-at : (line before level : ℕ) (levels : List ℕ) (f : Fold) → Contains (begun_at line before level levels) f → BeginsAt line before level levels f
begins-at line before level levels f (k, lt, e) =
    let short : k < level - before = omega (arith, length-map-range_with_len (fold_at line levels) (before + 1) (level - before)) in
    let at : get_or (begun_at line before level levels) k f ≡ fold_at line levels (before + 1 + k) =
    get_or-map-range_with_len (fold_at line levels) (before + 1) (level - before) k (before + 1 + k) f short refl in
    let is : f ≡ fold_at line levels (before + 1 + k) = sym e ∙ at in
    let height : f.level ≡ before + 1 + k = ap (λ (g : Fold). g.level) is in
    record {
      above = omega arith;
      within = omega arith;
      is = is ∙ ap (fold_at line levels) (sym height);
    }

pub begins : (line before level : ℕ) (levels : List ℕ) (f : Fold) → BeginsAt line before level levels f → Contains (begun_at line before level levels) f
begins line before level levels f there =
    let k : ℕ = f.level - (before + 1) in
    let above : before < f.level = there.above in
    let within : f.level ≤ level = there.within in
    let short : k < level - before = omega arith in
    let long : k < length (begun_at line before level levels) =
    omega (arith, length-map-range_with_len (fold_at line levels) (before + 1) (level - before)) in
    let at : get_or (begun_at line before level levels) k f ≡ fold_at line levels f.level =
    get_or-map-range_with_len (fold_at line levels) (before + 1) (level - before) k f.level f short (omega arith) in
    (k, long, at ∙ sym there.is)

-- just outside of a fold the lines are lower
lower_before : (all : List ℕ) (line : ℕ) (f : Fold) → f.first ≡ line → IsFold all f → level_before all line < f.level
lower_before all zero f e is = is.is_a_level
lower_before all (suc k) f e is =
    let at : f.first - 1 ≡ k = omega arith in
    let some : 0 < f.first = omega arith in
    subst (λ i. get_or all i 0 < f.level) at (is.before some)

before_lower : (all : List ℕ) (line first v : ℕ) → first ≡ line → level_before all line < v → 0 < first → get_or all (first - 1) 0 < v
before_lower all zero first v e low some = absurd (omega arith)
before_lower all (suc k) first v e low some =
    let at : k ≡ first - 1 = omega arith in subst (λ i. get_or all i 0 < v) at low

module _ (all : List ℕ) (line l : ℕ) (ls : List ℕ) (here : line < length all) (rest : drop line all ≡ l ∷ ls) where
  front : get_or all line 0 ≡ l
  front = let cut : drop line all ≡ get_or all line 0 ∷ drop (suc line) all = drop-cons all line 0 here in cc

  back : drop (suc line) all ≡ ls
  back = let cut : drop line all ≡ get_or all line 0 ∷ drop (suc line) all = drop-cons all line 0 here in cc

  long : line + suc (length ls) ≡ length all
  long = omega (arith, length-drop line all, ap length rest)

  level_at : (k : ℕ) → get_or (l ∷ ls) k 0 ≡ get_or all (line + k) 0
  level_at k = ap (λ xs. get_or xs k 0) (sym rest) ∙ get_or-drop line all k 0

  -- a fold that begins at this line begins there
  fold_begins : (f : Fold) → f.first ≡ line → IsFold all f → BeginsAt line (level_before all line) l (l ∷ ls) f
  fold_begins f first is =
      let v : ℕ = f.level in
      let n : ℕ = f.last + 1 - line in
      let ordered : f.first ≤ f.last = is.has_lines in
      let stands : f.last < length all = is.stands in
      let reach : f.level ≤ get_or all line 0 = is.reaches line (omega arith) (omega arith) in
      let passes : (k : ℕ) → k < n → nat_le v (get_or (l ∷ ls) k 0) ≡ true =
      λ k lt.
      let up : f.level ≤ get_or all (line + k) 0 = is.reaches (line + k) (omega arith) (omega arith) in
      le-leb v (get_or (l ∷ ls) k 0) (omega (arith, level_at k)) in
      let stops : n < length (l ∷ ls) → nat_le v (get_or (l ∷ ls) n 0) ≡ false =
      λ lt.
      let at : line + n ≡ f.last + 1 = omega arith in
      let down : get_or all (f.last + 1) 0 < f.level = is.after (omega (arith, long)) in
      let same : get_or (l ∷ ls) n 0 ≡ get_or all (f.last + 1) 0 =
      level_at n ∙ ap (λ i. get_or all i 0) at in
      lt-leb v (get_or (l ∷ ls) n 0) (omega arith) in
      let count : stretch v (l ∷ ls) ≡ n =
      prefix_len_is (nat_le v) (l ∷ ls) n 0 (omega (arith, long)) passes stops in
      let last : f.last ≡ line + stretch v (l ∷ ls) - 1 = omega arith in
      let fold_of : ℕ → ℕ → Fold = λ a b. record { first = a; last = b; level = f.level } in
      record {
        above = lower_before all line f first is;
        within = omega (arith, front);
        is = ap (λ a. fold_of a f.last) first ∙ ap (fold_of line) last;
      }

  -- and what begins there is a fold
  begun_fold : (f : Fold) → BeginsAt line (level_before all line) l (l ∷ ls) f → IsFold all f × (f.first ≡ line)
  begun_fold f there =
      let v : ℕ = f.level in
      let s : ℕ = stretch v (l ∷ ls) in
      let above : level_before all line < f.level = there.above in
      let first : f.first ≡ line = ap (λ (g : Fold). g.first) there.is in
      let last : f.last ≡ line + s - 1 = ap (λ (g : Fold). g.last) there.is in
      let some : s ≡ 1 + stretch v ls = stretch_on v l ls there.within in
      let few : s ≤ suc (length ls) = prefix_len-le-length (nat_le v) (l ∷ ls) in
      let reaches : (i : ℕ) → f.first ≤ i → i ≤ f.last → f.level ≤ get_or all i 0 =
      λ i low high.
      let k : ℕ = i - line in
      let at : line + k ≡ i = omega arith in
      let up : v ≤ get_or (l ∷ ls) k 0 =
      leb-true v (get_or (l ∷ ls) k 0) (prefix_len_passes (nat_le v) (l ∷ ls) k 0 (omega arith)) in
      let same : get_or (l ∷ ls) k 0 ≡ get_or all i 0 = level_at k ∙ ap (λ j. get_or all j 0) at in
      omega arith in
      let after : f.last + 1 < length all → get_or all (f.last + 1) 0 < f.level =
      λ lt.
      let at : line + s ≡ f.last + 1 = omega arith in
      let down : get_or (l ∷ ls) s 0 < v =
      leb-false v (get_or (l ∷ ls) s 0) (prefix_len_stops (nat_le v) (l ∷ ls) 0 (omega (arith, long))) in
      let same : get_or (l ∷ ls) s 0 ≡ get_or all (f.last + 1) 0 =
      level_at s ∙ ap (λ j. get_or all j 0) at in
      omega arith in (
        record {
          is_a_level = omega arith;
          has_lines = omega arith;
          stands = omega (arith, long);
          reaches = reaches;
          before = before_lower all line f.first f.level first above;
          after = after;
        },
        first,
      )

folds_are : (all : List ℕ) (line : ℕ) (rest : List ℕ) (f : Fold) → drop line all ≡ rest → line ≤ length all → Contains (folds_from line (level_before all line) rest) f ↔ (IsFold all f × (line ≤ f.first))
folds_are all line [] f e le =
    let whole : length all ≤ line = omega (arith, length-drop line all, ap length e) in (
      (λ (k, lt, at). absurd (omega arith)),
      (λ (is, low).
          let ordered : f.first ≤ f.last = is.has_lines in
          let stands : f.last < length all = is.stands in
          absurd (omega arith)),
    )
folds_are all line (l ∷ ls) f e le =
    let here : line < length all = omega (arith, length-drop line all, ap length e) in
    let begun : List Fold = begun_at line (level_before all line) l (l ∷ ls) in
    let more : List Fold = folds_from (suc line) l ls in
    let behind : Contains more f ↔ (IsFold all f × (suc line ≤ f.first)) =
    subst (λ b. Contains (folds_from (suc line) b ls) f ↔ (IsFold all f × (suc line ≤ f.first)))
    (front all line l ls here e) (folds_are all (suc line) ls f (back all line l ls here e) here) in (
      (λ has. elim (Contains-append_cases begun more f has) [
        | inl h ↦
            let is : IsFold all f × (f.first ≡ line) =
            begun_fold all line l ls here e f (begins-at line (level_before all line) l (l ∷ ls) f h) in
            let at : f.first ≡ line = is.1 in
            (is.0, omega arith)
        | inr h ↦ let is : IsFold all f × (suc line ≤ f.first) = behind.0 h in
            let low : suc line ≤ f.first = is.1 in
            (is.0, omega arith)
      ]),
      (λ (is, low). elim (cases_eq f.first line) [
        | inl at ↦
            Contains-append_left begun more f
            (begins line (level_before all line) l (l ∷ ls) f (fold_begins all line l ls here e f at is))
        | inr other ↦ Contains-append_right begun more f (behind.1 (is, omega arith))
      ]),
    )

pub the_stretches : (levels : List ℕ) (f : Fold) → Contains (folds_of levels) f ↔ IsFold levels f
the_stretches levels f =
    let both : Contains (folds_of levels) f ↔ (IsFold levels f × (0 ≤ f.first)) =
    folds_are levels 0 levels f refl (omega arith) in
    ((λ has. (both.0 has).0), (λ is. both.1 (is, omega arith)))

-- the order
AllPairs-append : {X : Type 0} (R : X → X → Type 0) (xs ys : List X) → AllPairs R xs → AllPairs R ys → ((x y : X) → Contains xs x → Contains ys y → R x y) → AllPairs R (xs ++ ys)
AllPairs-append R xs ys of_xs of_ys across i j d lt within =
    elim (cases_lt j (length xs)) [
      | inl left ↦
          let left_too : i < length xs = omega arith in
          rw (get_or_append_left xs ys d i left_too, get_or_append_left xs ys d j left) (of_xs i j d lt left)
      | inr right ↦
          let short : j - length xs < length ys = omega (arith, length-append xs ys) in
          elim (cases_lt i (length xs)) [
            | inl left ↦
                rw (get_or_append_left xs ys d i left, get_or-append_right xs ys (length xs) j d refl right)
                (across (get_or xs i d) (get_or ys (j - length xs) d) (Contains-get_or xs i d left) (Contains-get_or ys (j - length xs) d short))
            | inr right_too ↦
                rw (get_or-append_right xs ys (length xs) i d refl right_too, get_or-append_right xs ys (length xs) j d refl right)
                (of_ys (i - length xs) (j - length xs) d (omega arith) short)
          ]
    ]

begun_in_order : (line before level : ℕ) (levels : List ℕ) → AllPairs IsBefore (begun_at line before level levels)
begun_in_order line before level levels i j d lt within =
    let short : j < level - before =
    omega (arith, length-map-range_with_len (fold_at line levels) (before + 1) (level - before)) in
    let short_too : i < level - before = omega arith in
    rw (
      get_or-map-range_with_len (fold_at line levels) (before + 1) (level - before) i (before + 1 + i) d short_too refl,
      get_or-map-range_with_len (fold_at line levels) (before + 1) (level - before) j (before + 1 + j) d short refl,
    )
    (inr (refl, omega arith))

from_line : (line before : ℕ) (levels : List ℕ) → All (λ (f : Fold). line ≤ f.first) (folds_from line before levels)
from_line line before [] = All-nil (λ (f : Fold). line ≤ f.first)
from_line line before (l ∷ ls) =
    let P : Fold → Type 0 = λ f. line ≤ f.first in
    let Q : Fold → Type 0 = λ f. suc line ≤ f.first in
    let this : (k : ℕ) (d : ℕ) → k < length (range_with_len (before + 1) (l - before)) → P (fold_at line (l ∷ ls) (get_or (range_with_len (before + 1) (l - before)) k d)) =
    λ k d lt. omega arith in
    All-append P (begun_at line before l (l ∷ ls)) (folds_from (suc line) l ls)
    (All-map P (fold_at line (l ∷ ls)) (range_with_len (before + 1) (l - before)) this)
    (All-weaker Q P (λ f low. omega arith) (folds_from (suc line) l ls) (from_line (suc line) l ls))

in_order : (line before : ℕ) (levels : List ℕ) → AllPairs IsBefore (folds_from line before levels)
in_order line before [] = λ i j d lt within. absurd (omega arith)
in_order line before (l ∷ ls) =
    let begun : List Fold = begun_at line before l (l ∷ ls) in
    let more : List Fold = folds_from (suc line) l ls in
    AllPairs-append IsBefore begun more (begun_in_order line before l (l ∷ ls)) (in_order (suc line) l ls)
    (λ a b of_begun of_more.
    let here : a.first ≡ line =
    ap (λ (g : Fold). g.first) ((begins-at line before l (l ∷ ls) a of_begun).is) in
    let low : suc line ≤ b.first =
    All-contains (λ (f : Fold). suc line ≤ f.first) more b (from_line (suc line) l ls) of_more in
    inl (omega arith))

pub stand_in_order : (levels : List ℕ) → AllPairs IsBefore (folds_of levels)
stand_in_order levels = in_order 0 0 levels
