-- What reading answers: a value with what is left of the line, or the cause of a refusal.
use Rattle.std.specs.Prelude.{◌≡◌, ℕ, List, Result, Ok, Err}
use Rattle.syn_words.specs.declared.cause.Cause.{Cause}
use Rattle.syn_words.specs.declared.refusal.WordRefusal.{WordRefusal}
use Rattle.syn_words.specs.declared.refusal.WordRefusal.TheVariants.{Fault, Memory}

-- a value, and what is left behind it
abbrev pub Read : Type 0 → Type 0
Read A = Result (A × List ℕ) Cause

-- one step after the other, up to the first cause
infixl 10 ◌>>=◌
abbrev pub ◌>>=◌ : {A B : Type 0} → Result A Cause → (A → Result B Cause) → Result B Cause
Ok x >>= f = f x
Err c >>= f = Err c

-- The answers of code. Want of memory is free.

abbrev pub FailsAs : {A : Type 0} → WordRefusal → Result A Cause → Type 0
FailsAs (Fault c) rules = rules ≡ Err c
FailsAs Memory rules = Unit {0}

-- the answer is what the rules give
abbrev pub AnswersAs : {A : Type 0} → Result A WordRefusal → Result A Cause → Type 0
AnswersAs (Ok x) rules = rules ≡ Ok x
AnswersAs (Err e) rules = FailsAs e rules

-- so is what is left
abbrev pub TakesAs : {A : Type 0} → Result A WordRefusal → List ℕ → Result (A × List ℕ) Cause → Type 0
TakesAs (Ok x) left rules = rules ≡ Ok (x, left)
TakesAs (Err e) left rules = FailsAs e rules

-- the same of an answer without a value
abbrev pub LeavesAs : {A : Type 0} → Result A WordRefusal → List ℕ → Result (List ℕ) Cause → Type 0
LeavesAs (Ok x) left rules = rules ≡ Ok left
LeavesAs (Err e) left rules = FailsAs e rules
