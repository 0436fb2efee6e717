-- An attempt that is known to fail does, within the budget.
use Rattle.pattern_screens.proofs.Common.{◌≡◌, subst, arith, ℕ, ◌≤◌, true, false, not, nat_lt, length, and_parts, nat_tests, PatternTree, Context, place, line_at, attempt, failing_cost, fails, FailHere, key_numbered, key_of, IsInVain, is_futile, Key}
use Rattle.pattern_screens.proofs.InVain.{in-vain-within}
use Rattle.pattern_screens.proofs.Screened.{law}

pub isnt_more : (budget cost : ℕ) → not (nat_lt budget cost) ≡ true → cost ≤ budget
isnt_more budget cost e = grind (arith, nat_tests)

-- where it fails at the key of a column
pub fails-here : (tree : PatternTree) (x : Context) (budget line col : ℕ) → col ≤ length (line_at x.text line) → fails x.sets budget x.ignore (key_of x.sets (line_at x.text line) col) tree ≡ true →
    IsInVain (place line col) budget false (attempt tree x (place line col))
fails-here tree x budget line col within e =
    let b = and_parts (is_futile x.sets x.ignore (key_of x.sets (line_at x.text line) col) tree) (not (nat_lt budget (failing_cost tree))) e in
    in-vain-within (place line col) (failing_cost tree) budget false (attempt tree x (place line col)) (isnt_more budget (failing_cost tree) b.1) (law tree x line col within b.0)

pub here-law : FailHere
here-law tree x budget line col number is e =
    let f = and_parts (nat_lt number 777) (fails x.sets budget x.ignore (key_numbered number) tree) e in
    fails-here tree x budget line col is.within (subst (λ (k : Key). fails x.sets budget x.ignore k tree ≡ true) is.is f.1)
