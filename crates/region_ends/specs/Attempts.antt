-- How an attempt's answer is read.
use Rattle.std.specs.Prelude.{◌≡◌, ◌<◌, ◌≤◌, ℕ, Some, None}
use Rattle.pattern_match.specs.declared.answer.Attempt.{Attempt}
use Rattle.pattern_match.specs.declared.answer.Attempt.TheVariants.{Found, Absent, TooCostly}
use Rattle.paint_rules.specs.Rules as rule

-- what the rules say of an attempt, within the budget
abbrev pub IsAttempted : Attempt → ℕ → rule.Attempt → Type 0
IsAttempted (Found m k) budget a = (a.cost ≤ budget) × (a.found ≡ Some m) × (a.looked ≡ k)
IsAttempted (Absent k) budget a = (a.cost ≤ budget) × (a.found ≡ None) × (a.looked ≡ k)
IsAttempted TooCostly budget a = budget < a.cost
