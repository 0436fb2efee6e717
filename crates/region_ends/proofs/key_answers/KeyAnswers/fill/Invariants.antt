use Rattle.region_ends.proofs.Common.{◌≤◌, ℕ, length}
use Rattle.region_ends.specs.KeyAnswers.{IsYes}
use Rattle.region_ends.proofs.key_answers.KeyAnswers.fill.Given as goal

-- no number has a yes that had none
abbrev pub invariant-loop : goal.invariant-loop
invariant-loop l = record {
  many : l.counter ≤ length l.self.rows.items;
  kept : (j k : ℕ) → IsYes l.self j k → IsYes l.initial.self j k;
}
