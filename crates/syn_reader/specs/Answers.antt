-- What carrying out commands answers: what they leave, or why one is refused.
use Rattle.std.specs.Prelude.{◌≡◌, List, [], ◌∷◌, Result, Ok, Err}
use Rattle.syntax_set.specs.declared.set_error.SetError.{SetError}
use Rattle.syntax_set.specs.declared.set_error.SetError.TheVariants as set_error
use Rattle.syn_words.specs.declared.cause.Cause.{Cause}
use Rattle.syn_words.specs.declared.cause.Cause.TheVariants as cause
use Rattle.syn_reader.specs.declared.refusal.Refusal.{Refusal}
use Rattle.syn_reader.specs.declared.refusal.Refusal.TheVariants.{Fault, Memory}

-- one step after the other, up to the first that is refused
infixl 10 ◌>>=◌
abbrev pub ◌>>=◌ : {A B E : Type 0} → Result A E → (A → Result B E) → Result B E
Ok x >>= f = f x
Err e >>= f = Err e

-- the same for each of several in turn
abbrev pub each : {S X E : Type 0} → (S → X → Result S E) → S → List X → Result S E
each step s [] = Ok s
each step s (x ∷ xs) = step s x >>= λ t. each step t xs

-- The answers of code. Want of memory is free.

abbrev pub refusal_of : SetError → Refusal
refusal_of set_error.TooManyItems = Fault cause.TooManyItems
refusal_of set_error.TooManyGroups = Fault cause.TooManyGroups
refusal_of set_error.Memory = Memory

abbrev pub FailsAs : {A : Type 0} → Refusal → Result A Cause → Type 0
FailsAs (Fault c) rules = rules ≡ Err c
FailsAs Memory rules = Unit {0}

-- the answer is what the rules give
abbrev pub Gives : {A : Type 0} → Result A Refusal → Result A Cause → Type 0
Gives (Ok x) rules = rules ≡ Ok x
Gives (Err e) rules = FailsAs e rules

-- so is what it leaves
abbrev pub Makes : {A S : Type 0} → Result A Refusal → S → Result (A × S) Cause → Type 0
Makes (Ok x) left rules = rules ≡ Ok (x, left)
Makes (Err e) left rules = FailsAs e rules

-- the same of an answer without a value
abbrev pub Leaves : {A S : Type 0} → Result A Refusal → S → Result S Cause → Type 0
Leaves (Ok x) left rules = rules ≡ Ok left
Leaves (Err e) left rules = FailsAs e rules
