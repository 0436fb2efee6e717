-- What a step of a command answers: a value, or the first cause against the command.
use Rattle.std.specs.Prelude.{◌≡◌, Result, Ok, Err}
use Rattle.ex_substitute.specs.declared.error.ExError.{ExError}
use Rattle.ex_substitute.specs.declared.error.ExError.TheVariants as error
use Rattle.ex_substitute.specs.declared.refusal.Refusal.{Refusal}
use Rattle.ex_substitute.specs.declared.refusal.Refusal.TheVariants.{Cause, Memory}

-- one step after the other, up to the first cause
infixl 10 ◌>>=◌
abbrev pub ◌>>=◌ : {A B E : Type 0} → Result A E → (A → Result B E) → Result B E
Ok x >>= f = f x
Err e >>= f = Err e

-- The answers of code. Want of memory is free.

abbrev pub TellsCause : {A : Type 0} → ExError → Result A ExError → Type 0
TellsCause error.Memory rules = Unit {0}
TellsCause e rules = rules ≡ Err e

-- the answer is what the rules give
abbrev pub Answers : {A : Type 0} → Result A ExError → Result A ExError → Type 0
Answers (Ok x) rules = rules ≡ Ok x
Answers (Err e) rules = TellsCause e rules

-- the same of a step

abbrev pub FailsAs : {A : Type 0} → Refusal → Result A ExError → Type 0
FailsAs (Cause e) rules = rules ≡ Err e
FailsAs Memory rules = Unit {0}

abbrev pub Gives : {A : Type 0} → Result A Refusal → Result A ExError → Type 0
Gives (Ok x) rules = rules ≡ Ok x
Gives (Err e) rules = FailsAs e rules
