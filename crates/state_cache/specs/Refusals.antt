-- A refusal is the expected one, or memory ran out.
use Rattle.std.specs.Prelude.{◌≡◌, ℕ, Result, Err, ⊤}
use Rattle.paint_rules.specs.Line.{Refusal}
use Rattle.paint_rules.specs.Rules.{Cause, TooCostly, TooDeep}
use Rattle.paint_reuse.specs.Kept.{RefusedLine}
use Rattle.state_cache.specs.declared.refusal.EditError.{EditError}
use Rattle.state_cache.specs.declared.refusal.EditError.TheVariants as error

abbrev pub refusal_for : ℕ → Cause → Refusal
refusal_for col cause = record { col = col; cause = cause }

-- of a line of this number
abbrev pub RefusesLine : {X : Type 0} → ℕ → Result X Refusal → EditError → Type 0
RefusesLine k expected (error.TooCostly l c i) = (l ≡ k) × (expected ≡ Err (refusal_for c (TooCostly i)))
RefusesLine k expected (error.TooDeep l c) = (l ≡ k) × (expected ≡ Err (refusal_for c TooDeep))
RefusesLine k expected error.Memory = ⊤

-- of a text, or of some of its lines
abbrev pub RefusesAs : {X : Type 0} → Result X RefusedLine → EditError → Type 0
RefusesAs expected (error.TooCostly l c i) =
    expected ≡ Err (record { line = l; refusal = refusal_for c (TooCostly i) })
RefusesAs expected (error.TooDeep l c) = expected ≡ Err (record { line = l; refusal = refusal_for c TooDeep })
RefusesAs expected error.Memory = ⊤
