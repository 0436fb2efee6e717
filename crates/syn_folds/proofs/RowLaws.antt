-- The rows of a view have each line once, and the closed ones are the long runs.
use Rattle.std.proofs.Common.{◌≡◌, ℕ, zero, suc, ◌+◌, ◌-◌, ◌<◌, ◌≤◌, ◌⊎◌, ◌↔◌, List, [], ◌∷◌, ◌++◌, length, true, false, refl, ap, sym, subst, inl, inr, ◌∙◌, arith}
use Rattle.std.specs.List.{Contains, flat_map, range_with_len}
use Rattle.std.specs.Prelude.{nat_le, nat_lt}
use Rattle.std.proofs.lemmas.Bool.{cases_lt, cond-true, cond-false, le-ltb, lt-ltb}
use Rattle.std.proofs.lemmas.List.Elements.{Contains-append_cases, Contains-append_left, Contains-append_right}
use Rattle.std.proofs.lemmas.List.Sums.{prefix_len-le-length}
use Rattle.syn_folds.specs.declared.rows.Row.{Row}
use Rattle.syn_folds.specs.declared.rows.Row.TheVariants.{Line, Closed}
use Rattle.syn_folds.specs.declared.stretches.Fold.{Fold}
use Rattle.syn_folds.specs.Folds.{begun_at, folds_from, folds_of, stretch}
use Rattle.syn_folds.specs.Laws.{IsFold, lines_of}
use Rattle.syn_folds.specs.View.{row_of, rows_from, view_of}
use Rattle.syn_folds.proofs.RunLaws.{rows_begin, rows_off, rows_on}
use Rattle.syn_folds.proofs.BegunLaws.{stretch_off, stretch_on}
use Rattle.syn_folds.proofs.StretchLaws.{BeginsAt, begins, begins-at, the_stretches}

ranges : (a n m : ℕ) → range_with_len a n ++ range_with_len (a + n) m ≡ range_with_len a (n + m)
ranges a zero m =
    let at : a + 0 ≡ a = omega arith in
    let all : m ≡ 0 + m = omega arith in
    ap (λ k. range_with_len k m) at ∙ ap (range_with_len a) all
ranges a (suc n) m =
    let at : a + suc n ≡ a + 1 + n = omega arith in
    let all : suc (n + m) ≡ suc n + m = omega arith in
    ap (λ k. a ∷ (range_with_len (a + 1) n ++ range_with_len k m)) at
    ∙ ap (λ xs. a ∷ xs) (ranges (a + 1) n m)
    ∙ ap (range_with_len a) all

-- the lines of a row are as many as it was made of
row_lines : (line more : ℕ) → lines_of (row_of line (1 + more)) ≡ range_with_len line (1 + more)
row_lines line zero = refl
row_lines line (suc more) =
    let long : line + (1 + suc more) - 1 + 1 - line ≡ 1 + suc more = omega arith in
    let two : 1 < 1 + suc more = omega arith in
    ap lines_of (cond-true _ _ _ (lt-ltb 1 (1 + suc more) two)) ∙ ap (range_with_len line) long

-- The rows to come have the lines from this one on; where the line before is above the level, without the run that goes on.
covered : (close line : ℕ) (levels : List ℕ) → (flat_map lines_of (rows_from close false line levels) ≡ range_with_len line (length levels)) × (flat_map lines_of (rows_from close true line levels) ≡ range_with_len (line + stretch (suc close) levels) (length levels - stretch (suc close) levels))
covered close line [] = (refl, refl)
covered close line (l ∷ ls) =
    let s : ℕ = stretch (suc close) ls in
    let few : s ≤ length ls = prefix_len-le-length (nat_le (suc close)) ls in
    let begun : flat_map lines_of (rows_from close false (suc line) ls) ≡ range_with_len (suc line) (length ls) =
    (covered close (suc line) ls).0 in
    let on : flat_map lines_of (rows_from close true (suc line) ls) ≡ range_with_len (suc line + s) (length ls - s) =
    (covered close (suc line) ls).1 in
    elim (cases_lt close l) [
      | inl above ↦
          let count : stretch (suc close) (l ∷ ls) ≡ 1 + s = stretch_on (suc close) l ls above in
          let next : suc line + s ≡ line + (1 + s) = omega arith in
          let all : 1 + s + (length ls - s) ≡ suc (length ls) = omega arith in
          let at : suc line + s ≡ line + stretch (suc close) (l ∷ ls) = omega arith in
          let left : length ls - s ≡ suc (length ls) - stretch (suc close) (l ∷ ls) = omega arith in (
            ap (flat_map lines_of) (rows_begin close line l ls above)
                ∙ ap (λ xs. xs ++ flat_map lines_of (rows_from close true (suc line) ls)) (row_lines line s)
                ∙ ap (λ xs. range_with_len line (1 + s) ++ xs) on
                ∙ ap (λ k. range_with_len line (1 + s) ++ range_with_len k (length ls - s)) next
                ∙ ranges line (1 + s) (length ls - s)
                ∙ ap (range_with_len line) all,
            ap (flat_map lines_of) (rows_on close line l ls above)
                ∙ on
                ∙ ap (λ k. range_with_len k (length ls - s)) at
                ∙ ap (range_with_len (line + stretch (suc close) (l ∷ ls))) left,
          )
      | inr below ↦
          let none : stretch (suc close) (l ∷ ls) ≡ 0 = stretch_off (suc close) l ls (omega arith) in
          let next : suc line ≡ line + 1 = omega arith in
          let at : line ≡ line + stretch (suc close) (l ∷ ls) = omega arith in
          let left : suc (length ls) ≡ suc (length ls) - stretch (suc close) (l ∷ ls) = omega arith in
          let this : line ∷ flat_map lines_of (rows_from close false (suc line) ls) ≡ range_with_len line (suc (length ls)) =
          ap (λ xs. line ∷ xs) begun ∙ ap (λ k. line ∷ range_with_len k (length ls)) next in (
            ap (flat_map lines_of) (rows_off close line l ls false below) ∙ this,
            ap (flat_map lines_of) (rows_off close line l ls true below)
                ∙ this
                ∙ ap (λ k. range_with_len k (suc (length ls))) at
                ∙ ap (range_with_len (line + stretch (suc close) (l ∷ ls))) left,
          )
    ]

pub cover_the_lines : (close : ℕ) (levels : List ℕ) → flat_map lines_of (view_of close levels) ≡ range_with_len 0 (length levels)
cover_the_lines close levels = (covered close 0 levels).0

contains-cons : {X : Type 0} (x y : X) (xs : List X) → Contains (x ∷ xs) y → (x ≡ y) ⊎ Contains xs y
contains-cons x y xs (zero, lt, e) = inl e
contains-cons x y xs (suc k, lt, e) = inr (k, omega arith, e)

contains-head : {X : Type 0} (x y : X) (xs : List X) → x ≡ y → Contains (x ∷ xs) y
contains-head x y xs e = (0, omega arith, e)

contains-tail : {X : Type 0} (x y : X) (xs : List X) → Contains xs y → Contains (x ∷ xs) y
contains-tail x y xs (k, lt, e) = (suc k, omega arith, e)

abbrev run : ℕ → ℕ → ℕ → Fold
run close first last = record { first = first; last = last; level = suc close }

module _ (close line l : ℕ) (ls : List ℕ) (first last : ℕ) where
  -- no fold of this level begins at a line that doesn't reach it, or behind one that does
  no_begin : (before : ℕ) → ((before < suc close) → suc close ≤ l → ⊥) → Contains (begun_at line before l (l ∷ ls)) (run close first last) → ⊥
  no_begin before never has =
      let there : BeginsAt line before l (l ∷ ls) (run close first last) =
      begins-at line before l (l ∷ ls) (run close first last) has in
      never there.above there.within

  is_closed : (count : ℕ) → 1 < count → first ≡ line → last ≡ line + count - 1 → row_of line count ≡ Closed first last
  is_closed count two at end =
      cond-true _ _ _ (lt-ltb 1 count two) ∙ ap (λ k. Closed line k) (sym end) ∙ ap (λ k. Closed k last) (sym at)

  -- a closed row that begins at a line is of two lines or more
  long_row : (count : ℕ) → row_of line count ≡ Closed first last → (1 < count) × (first ≡ line) × (last ≡ line + count - 1)
  long_row count e =
      elim (cases_lt 1 count) [
        | inl two ↦
            let same : Closed line (line + count - 1) ≡ Closed first last =
            sym (cond-true _ _ _ (lt-ltb 1 count two)) ∙ e in
            (two, (cc), (cc))
        | inr one ↦
            let same : Line line ≡ Closed first last = sym (cond-false _ _ _ (le-ltb 1 count one)) ∙ e in
            absurd (cc)
      ]

-- where no fold of this level begins, those that begin later stay
module _ (begun more : List Fold) (f : Fold) (row : Row) (later : List Row) (long : Type 0) (behind : Contains later row ↔ (long × Contains more f)) where
  none_begins : (Contains begun f → ⊥) → Contains later row ↔ (long × Contains (begun ++ more) f)
  none_begins none = (
    (λ has. let is : long × Contains more f = behind.0 has in (is.0, Contains-append_right begun more f is.1)),
    (λ (is, has). elim (Contains-append_cases begun more f has) [
      | inl h ↦ absurd (none h)
      | inr h ↦ behind.1 (is, h)
    ]),
  )

  -- where one begins, its row does
  one_begins : (head : Row) → (head ≡ row → long × Contains begun f) → (long → Contains begun f → head ≡ row) → Contains (head ∷ later) row ↔ (long × Contains (begun ++ more) f)
  one_begins head of_row of_fold = (
    (λ has. elim (contains-cons head row later has) [
      | inl e ↦ let is : long × Contains begun f = of_row e in (is.0, Contains-append_left begun more f is.1)
      | inr h ↦ let is : long × Contains more f = behind.0 h in (is.0, Contains-append_right begun more f is.1)
    ]),
    (λ (is, has). elim (Contains-append_cases begun more f has) [
      | inl h ↦ contains-head head row later (of_fold is h)
      | inr h ↦ contains-tail head row later (behind.1 (is, h))
    ]),
  )

closed_are : (close line before : ℕ) (levels : List ℕ) (first last : ℕ) → Contains (rows_from close (nat_lt close before) line levels) (Closed first last) ↔ ((first < last) × Contains (folds_from line before levels) (run close first last))
closed_are close line before [] first last =
    ((λ (k, lt, e). absurd (omega arith)), (λ (long, (k, lt, e)). absurd (omega arith)))
closed_are close line before (l ∷ ls) first last =
    let f : Fold = run close first last in
    let row : Row = Closed first last in
    let begun : List Fold = begun_at line before l (l ∷ ls) in
    let more : List Fold = folds_from (suc line) l ls in
    let later : List Row = rows_from close (nat_lt close l) (suc line) ls in
    let behind : Contains later row ↔ ((first < last) × Contains more f) = closed_are close (suc line) l ls first last in
    let Goal : List Row → Type 0 = λ rows. Contains rows row ↔ ((first < last) × Contains (begun ++ more) f) in
    elim (cases_lt close l) [
      | inl above ↦
          let same : rows_from close true (suc line) ls ≡ later =
          ap (λ b. rows_from close b (suc line) ls) (sym (lt-ltb close l above)) in
          elim (cases_lt close before) [
            | inl higher ↦
                let rows : rows_from close (nat_lt close before) line (l ∷ ls) ≡ later =
                ap (λ b. rows_from close b line (l ∷ ls)) (lt-ltb close before higher)
                ∙ rows_on close line l ls above ∙ same in
                let none : Contains begun f → ⊥ =
                no_begin close line l ls first last before (λ low high. absurd (omega arith)) in
                subst Goal (sym rows) (none_begins begun more f row later (first < last) behind none)
            | inr lower ↦
                let count : ℕ = 1 + stretch (suc close) ls in
                let head : Row = row_of line count in
                let on : stretch (suc close) (l ∷ ls) ≡ count = stretch_on (suc close) l ls above in
                let rows : rows_from close (nat_lt close before) line (l ∷ ls) ≡ head ∷ later =
                ap (λ b. rows_from close b line (l ∷ ls)) (le-ltb close before lower)
                ∙ rows_begin close line l ls above ∙ ap (λ xs. head ∷ xs) same in
                let of_row : head ≡ row → (first < last) × Contains begun f =
                λ e.
                let is : (1 < count) × (first ≡ line) × (last ≡ line + count - 1) =
                long_row close line l ls first last count e in
                let two : 1 < count = is.0 in
                let at : first ≡ line = is.1 in
                let end : last ≡ line + count - 1 = is.2 in
                let end_too : last ≡ line + stretch (suc close) (l ∷ ls) - 1 = omega arith in
                let begins_so : BeginsAt line before l (l ∷ ls) f = record {
                  above = omega arith;
                  within = omega arith;
                  is = ap (λ a. run close a last) at ∙ ap (run close line) end_too;
                } in
                (omega arith, begins line before l (l ∷ ls) f begins_so) in
                let of_fold : first < last → Contains begun f → head ≡ row =
                λ long has.
                let there : BeginsAt line before l (l ∷ ls) f = begins-at line before l (l ∷ ls) f has in
                let at : first ≡ line = ap (λ (g : Fold). g.first) there.is in
                let end : last ≡ line + stretch (suc close) (l ∷ ls) - 1 = ap (λ (g : Fold). g.last) there.is in
                is_closed close line l ls first last count (omega arith) at (omega arith) in
                subst Goal (sym rows) (one_begins begun more f row later (first < last) behind head of_row of_fold)
          ]
      | inr below ↦
          let rows : rows_from close (nat_lt close before) line (l ∷ ls) ≡ Line line ∷ later =
          rows_off close line l ls (nat_lt close before) below
          ∙ ap (λ b. Line line ∷ rows_from close b (suc line) ls) (sym (le-ltb close l below)) in
          let none : Contains begun f → ⊥ =
          no_begin close line l ls first last before (λ low high. absurd (omega arith)) in
          let of_row : Line line ≡ row → (first < last) × Contains begun f = λ e. absurd (cc) in
          subst Goal (sym rows)
          (one_begins begun more f row later (first < last) behind (Line line) of_row (λ long has. absurd (none has)))
    ]

pub long_runs : (close : ℕ) (levels : List ℕ) (first last : ℕ) → Contains (view_of close levels) (Closed first last) ↔ ((first < last) × IsFold levels (record { first = first; last = last; level = suc close }))
long_runs close levels first last =
    let both : Contains (view_of close levels) (Closed first last) ↔ ((first < last) × Contains (folds_of levels) (run close first last)) =
    subst (λ b. Contains (rows_from close b 0 levels) (Closed first last) ↔ ((first < last) × Contains (folds_of levels) (run close first last)))
    (le-ltb close 0 (omega arith)) (closed_are close 0 0 levels first last) in
    let are : Contains (folds_of levels) (run close first last) ↔ IsFold levels (run close first last) =
    the_stretches levels (run close first last) in (
      (λ has. let f : (first < last) × Contains (folds_of levels) (run close first last) = both.0 has in (f.0, are.0 f.1)),
      (λ (long, is). both.1 (long, are.1 is)),
    )
