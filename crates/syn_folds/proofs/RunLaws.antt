-- The rows to come while a run of lines above the level goes on.
use Rattle.std.proofs.Common.{◌≡◌, ℕ, suc, ◌+◌, ◌-◌, ◌<◌, ◌≤◌, List, [], ◌∷◌, ◌++◌, Bool, true, false, ap, sym, inl, inr, ◌∙◌, arith, length, drop}
use Rattle.std.specs.Prelude.{nat_lt, if◌then◌else◌}
use Rattle.std.proofs.lemmas.Bool.{cases_lt, cond-true, cond-false, le-ltb, lt-ltb}
use Rattle.std.proofs.lemmas.List.{drop_all}
use Rattle.syn_folds.specs.declared.rows.Row.{Row}
use Rattle.syn_folds.specs.declared.rows.Row.TheVariants.{Line}
use Rattle.syn_folds.specs.Folds.{stretch}
use Rattle.syn_folds.specs.Runs.{run_rows}
use Rattle.syn_folds.specs.View.{row_of, rows_from}
use Rattle.syn_folds.proofs.BegunLaws.{stretch_off, stretch_on}

-- the rows from the first line of a run on, which has come to a line; these are the levels from that line on
abbrev pub rows_to_come : ℕ → ℕ → ℕ → List ℕ → List Row
rows_to_come close first line levels =
    if nat_lt first line then row_of first (line - first + stretch (suc close) levels) ∷ rows_from close true line levels
    else rows_from close false line levels

in_run : (close first line : ℕ) (levels : List ℕ) → first < line → rows_to_come close first line levels ≡ row_of first (line - first + stretch (suc close) levels) ∷ rows_from close true line levels
in_run close first line levels lt = cond-true _ _ _ (lt-ltb first line lt)

no_run : (close first line : ℕ) (levels : List ℕ) → line ≤ first → rows_to_come close first line levels ≡ rows_from close false line levels
no_run close first line levels le = cond-false _ _ _ (le-ltb first line le)

module _ (first : ℕ) where
  some_rows : (count : ℕ) → 0 < count → run_rows first count ≡ row_of first count ∷ []
  some_rows count lt = cond-true _ _ _ (lt-ltb 0 count lt)

  no_rows : (count : ℕ) → count ≡ 0 → run_rows first count ≡ []
  no_rows count e = ap (run_rows first) e

module _ (close line l : ℕ) (ls : List ℕ) where
  -- a line above the level begins a row, or goes on in one
  pub rows_on : close < l → rows_from close true line (l ∷ ls) ≡ rows_from close true (suc line) ls
  rows_on above = cond-true _ _ _ (lt-ltb close l above)

  pub rows_begin : close < l → rows_from close false line (l ∷ ls) ≡ row_of line (1 + stretch (suc close) ls) ∷ rows_from close true (suc line) ls
  rows_begin above =
      ap (λ n. row_of line n ∷ rows_from close (nat_lt close l) (suc line) ls) (stretch_on (suc close) l ls (omega arith))
      ∙ ap (λ b. row_of line (1 + stretch (suc close) ls) ∷ rows_from close b (suc line) ls) (lt-ltb close l above)

  -- another line is a row
  one_row : l ≤ close → row_of line (stretch (suc close) (l ∷ ls)) ∷ rows_from close (nat_lt close l) (suc line) ls ≡ Line line ∷ rows_from close false (suc line) ls
  one_row below =
      ap (λ n. row_of line n ∷ rows_from close (nat_lt close l) (suc line) ls) (stretch_off (suc close) l ls (omega arith))
      ∙ ap (λ b. Line line ∷ rows_from close b (suc line) ls) (le-ltb close l below)

  pub rows_off : (in_run : Bool) → l ≤ close → rows_from close in_run line (l ∷ ls) ≡ Line line ∷ rows_from close false (suc line) ls
  rows_off true below = cond-false _ _ _ (le-ltb close l below) ∙ one_row below
  rows_off false below = one_row below

-- a line above the level goes on in the run, or begins one
pub run_on : (close first line l : ℕ) (ls : List ℕ) → first ≤ line → close < l → rows_to_come close first line (l ∷ ls) ≡ rows_to_come close first (suc line) ls
run_on close first line l ls le above =
    let later : rows_to_come close first (suc line) ls ≡ row_of first (suc line - first + stretch (suc close) ls) ∷ rows_from close true (suc line) ls =
    in_run close first (suc line) ls (omega arith) in
    elim (cases_lt first line) [
      | inl lt ↦
          let here : rows_to_come close first line (l ∷ ls) ≡ row_of first (line - first + stretch (suc close) (l ∷ ls)) ∷ rows_from close true line (l ∷ ls) =
          in_run close first line (l ∷ ls) lt in
          let same : line - first + stretch (suc close) (l ∷ ls) ≡ suc line - first + stretch (suc close) ls =
          omega (arith, stretch_on (suc close) l ls (omega arith)) in
          here
          ∙ ap (λ n. row_of first n ∷ rows_from close true line (l ∷ ls)) same
          ∙ ap (λ rows. row_of first (suc line - first + stretch (suc close) ls) ∷ rows) (rows_on close line l ls above)
          ∙ sym later
      | inr ge ↦
          let same : line ≡ first = omega arith in
          let count : 1 + stretch (suc close) ls ≡ suc line - first + stretch (suc close) ls = omega arith in
          no_run close first line (l ∷ ls) ge
          ∙ rows_begin close line l ls above
          ∙ ap (λ k. row_of k (1 + stretch (suc close) ls) ∷ rows_from close true (suc line) ls) same
          ∙ ap (λ n. row_of first n ∷ rows_from close true (suc line) ls) count
          ∙ sym later
    ]

-- another line ends the run
pub run_off : (close first line l : ℕ) (ls : List ℕ) → first ≤ line → l ≤ close → rows_to_come close first line (l ∷ ls) ≡ run_rows first (line - first) ++ Line line ∷ rows_to_come close (suc line) (suc line) ls
run_off close first line l ls le below =
    let later : rows_to_come close (suc line) (suc line) ls ≡ rows_from close false (suc line) ls =
    no_run close (suc line) (suc line) ls (omega arith) in
    elim (cases_lt first line) [
      | inl lt ↦
          let here : rows_to_come close first line (l ∷ ls) ≡ row_of first (line - first + stretch (suc close) (l ∷ ls)) ∷ rows_from close true line (l ∷ ls) =
          in_run close first line (l ∷ ls) lt in
          let same : line - first + stretch (suc close) (l ∷ ls) ≡ line - first =
          omega (arith, stretch_off (suc close) l ls (omega arith)) in
          here
          ∙ ap (λ n. row_of first n ∷ rows_from close true line (l ∷ ls)) same
          ∙ ap (λ rows. row_of first (line - first) ∷ rows) (rows_off close line l ls true below)
          ∙ ap (λ rows. row_of first (line - first) ∷ Line line ∷ rows) (sym later)
          ∙ ap (λ rows. rows ++ Line line ∷ rows_to_come close (suc line) (suc line) ls) (sym (some_rows first (line - first) (omega arith)))
      | inr ge ↦
          no_run close first line (l ∷ ls) ge
          ∙ rows_off close line l ls false below
          ∙ ap (λ rows. Line line ∷ rows) (sym later)
          ∙ ap (λ rows. rows ++ Line line ∷ rows_to_come close (suc line) (suc line) ls) (sym (no_rows first (line - first) (omega arith)))
    ]

-- and so does the end of the lines
pub run_end : (close first line : ℕ) → first ≤ line → rows_to_come close first line [] ≡ run_rows first (line - first)
run_end close first line le =
    elim (cases_lt first line) [
      | inl lt ↦
          let same : line - first + 0 ≡ line - first = omega arith in
          in_run close first line [] lt
          ∙ ap (λ n. row_of first n ∷ []) same
          ∙ sym (some_rows first (line - first) (omega arith))
      | inr ge ↦ no_run close first line [] ge ∙ sym (no_rows first (line - first) (omega arith))
    ]

-- where a run has come to the end of the lines, its row is the last one
pub at_end : (close first line end : ℕ) (levels : List ℕ) (rows all : List Row) → length levels ≤ line → line ≡ end → first ≤ line → rows ++ rows_to_come close first line (drop line levels) ≡ all → rows ++ run_rows first (end - first) ≡ all
at_end close first line end levels rows all past at le whole =
    let cut : drop line levels ≡ [] = drop_all line levels past in
    ap (λ k. rows ++ run_rows first (k - first)) (sym at)
    ∙ ap (λ last. rows ++ last) (sym (run_end close first line le))
    ∙ ap (λ ls. rows ++ rows_to_come close first line ls) (sym cut)
    ∙ whole
