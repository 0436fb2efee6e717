-- Limits, as the code tests them on its way.
use Rattle.std.specs.Prelude.{◌≡◌, ◌<◌, ◌≤◌, ℕ, nat_lt, true, false, Result, Ok, Err}
use Rattle.match_rules.specs.Ways.{Text}
use Rattle.ex_substitute.specs.declared.change.Change.{Change}
use Rattle.ex_substitute.specs.declared.error.ExError.{ExError}
use Rattle.ex_substitute.specs.declared.error.ExError.TheVariants.{LongLine, TooManyLines}
use Rattle.ex_substitute.specs.declared.refusal.Refusal.{Refusal}
use Rattle.ex_substitute.specs.declared.refusal.Refusal.TheVariants.{Cause, Memory}
use Rattle.ex_substitute.specs.Changes.{lines_after}

-- a length is refused where it is above that of a line
abbrev pub IsTooLong : {A : Type 0} → Result A ExError → ℕ → Type 0
IsTooLong (Ok _) length = length ≤ 1000000
IsTooLong (Err e) length = (e ≡ LongLine) × (1000000 < length)

-- a change is refused where the text has too many lines after it
abbrev pub HasFewLines : {A : Type 0} → Result A Refusal → Text → Change → Type 0
HasFewLines (Ok _) text change = nat_lt 2000000 (lines_after text change) ≡ false
HasFewLines (Err (Cause e)) text change = (e ≡ TooManyLines) × (nat_lt 2000000 (lines_after text change) ≡ true)
HasFewLines (Err Memory) text change = Unit {0}
