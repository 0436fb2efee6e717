-- Laws of ticks that looked at the same lines.
use Rattle.std.proofs.Common.{◌≡◌, ℕ, zero, suc, ◌+◌, ◌<◌, refl, sym, ap, ◌∙◌, arith}
use Rattle.std.specs.Prelude.{Option, Some, None}
use Rattle.syn_base.specs.declared.looked.Looked.{Looked}
use Rattle.syn_base.proofs.HullLaws.{hull_again, hull_self}
use Rattle.match_rules.specs.Attempt.{joined}
use Rattle.pattern_match.specs.declared.spent.Spent.{Spent}
use Rattle.pattern_match.specs.Spending.{spent_times, looking_at_too}

-- lines that were looked at once more
joined-again : (looked : Option Looked) (more : Looked) → joined (joined looked more) more ≡ joined looked more
joined-again None more = ap Some (hull_self more)
joined-again (Some looked) more = ap Some (hull_again looked more)

pub times-cost : (s : Spent) (count : ℕ) (looked : Looked) → (spent_times s count looked).cost ≡ s.cost + count
times-cost s zero looked = omega arith
times-cost s (suc count) looked = ap suc (times-cost s count looked) ∙ omega arith

pub times-budget : (s : Spent) (count : ℕ) (looked : Looked) → (spent_times s count looked).budget ≡ s.budget
times-budget s zero looked = refl
times-budget s (suc count) looked = times-budget s count looked

times-looked : (s : Spent) (count : ℕ) (looked : Looked) → (spent_times s (suc count) looked).looked ≡ joined s.looked looked
times-looked s zero looked = refl
times-looked s (suc count) looked =
    ap (λ l. joined l looked) (times-looked s count looked) ∙ joined-again s.looked looked

abbrev spent_as : ℕ → ℕ → Option Looked → Spent
spent_as cost budget looked = record { cost = cost; budget = budget; looked = looked }

times-more : (s : Spent) (count : ℕ) (looked : Looked) → looking_at_too looked (record s { cost = s.cost + suc count }) ≡ spent_times s (suc count) looked
times-more s count looked = λ i. spent_as (sym (times-cost s (suc count) looked) i) (sym (times-budget s (suc count) looked) i) (sym (times-looked s count looked) i)

-- the lines are looked at once, however many ticks there were
pub times-once : (s : Spent) (count : ℕ) (looked : Looked) → 0 < count → looking_at_too looked (record s { cost = s.cost + count }) ≡ spent_times s count looked
times-once s zero looked h = absurd (omega arith)
times-once s (suc count) looked h = times-more s count looked
