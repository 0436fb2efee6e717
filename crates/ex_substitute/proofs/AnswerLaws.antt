-- A refusal that is handed on.
use Rattle.std.proofs.Common.{◌≡◌, ◌∙◌, List, ◌++◌}
use Rattle.std.specs.Prelude.{Result, Ok, Err}
use Rattle.ex_substitute.specs.declared.error.ExError.{ExError}
use Rattle.ex_substitute.specs.declared.refusal.Refusal.{Refusal}
use Rattle.ex_substitute.specs.declared.refusal.Refusal.TheVariants.{Cause, Memory}
use Rattle.ex_substitute.specs.Answers.{FailsAs, Gives}

-- where a step fails, all that follows from it fails so
pub fails-on : {A B : Type 0} (e : Refusal) (step : Result A ExError) (all : Result B ExError) →
    ((cause : ExError) → step ≡ Err cause → all ≡ Err cause) → FailsAs e step → FailsAs e all
fails-on (Cause cause) step all on h = on cause h
fails-on Memory step all on h = tt

-- what was found before, with what is still to come
abbrev pub joined_to : {A : Type 0} → List A → Result (List A) ExError → Result (List A) ExError
joined_to before (Ok more) = Ok (before ++ more)
joined_to before (Err e) = Err e

-- an answer by the same rules in other words
pub gives-along : {A : Type 0} (answer : Result A Refusal) (rules others : Result A ExError) → others ≡ rules → Gives answer rules → Gives answer others
gives-along (Ok x) rules others e h = e ∙ h
gives-along (Err (Cause cause)) rules others e h = e ∙ h
gives-along (Err Memory) rules others e h = tt
