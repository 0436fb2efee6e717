-- Laws of runs: how a run goes on at a column, and where it ends.
use Rattle.std.proofs.Common.{◌≡◌, ℕ, zero, suc, ◌+◌, ◌<◌, true, false, List, [], ◌∷◌, length, drop, refl, arith, add-one}
use Rattle.std.proofs.lemmas.List.Sums.{take_while-cons}
use Rattle.char_class.specs.CharSet.{set_has}
use Rattle.keyword_table.specs.Words.{has_at, run_length}

pub has_at-within : (set line : List ℕ) (col : ℕ) → has_at set line col ≡ true → col < length line
has_at-within set [] col has = cc
has_at-within set (c ∷ line) zero has = omega arith
has_at-within set (c ∷ line) (suc col) has = let within = has_at-within set line col has in omega arith

more_by_suc : (set line : List ℕ) (col : ℕ) → has_at set line col ≡ true → run_length set (drop col line) ≡ 1 + run_length set (drop (suc col) line)
more_by_suc set [] col has = cc
more_by_suc set (c ∷ line) zero has = rw (take_while-cons (set_has set) c line, has) (omega arith)
more_by_suc set (c ∷ line) (suc col) has = more_by_suc set line col has

-- a character of the set makes the run longer by one
pub run_length-more : (set line : List ℕ) (col : ℕ) → has_at set line col ≡ true → run_length set (drop col line) ≡ 1 + run_length set (drop (col + 1) line)
run_length-more set line col has = rw add-one (more_by_suc set line col has)

-- no run stands where no character of the set does
pub run_length-none : (set line : List ℕ) (col : ℕ) → has_at set line col ≡ false → run_length set (drop col line) ≡ 0
run_length-none set [] zero has = refl
run_length-none set [] (suc col) has = refl
run_length-none set (c ∷ line) zero has = rw (take_while-cons (set_has set) c line, has) refl
run_length-none set (c ∷ line) (suc col) has = run_length-none set line col has
