-- What a command by pattern comes to on a text: it is read, and applied with the budget of the session.
use Rattle.std.specs.Prelude.{◌≢◌, ◌≡◌, ℕ, Bool, true, false, List, Result, Ok, Err, if◌then◌else◌, ⊤}
use Rattle.cause_print.specs.ExCauseText.{ex_cause_text}
use Rattle.edit_script.specs.CommandLine.{is_by_pattern}
use Rattle.edit_session.specs.declared.changes.Substituted.{Substituted}
use Rattle.edit_session.specs.declared.changes.Substituted.TheVariants.{Becomes, Counted}
use Rattle.edit_session.specs.declared.document.Unedited.{Unedited}
use Rattle.edit_session.specs.declared.document.Unedited.TheVariants as unedited
use Rattle.ex_substitute.specs.declared.change.Change.{Change}
use Rattle.ex_substitute.specs.declared.error.ExError.{ExError}
use Rattle.ex_substitute.specs.declared.error.ExError.TheVariants as error
use Rattle.ex_substitute.specs.Applying.{applied}
use Rattle.ex_substitute.specs.Commands.{Command, command_of}
use Rattle.ex_substitute.specs.Counting.{is_counted}

-- characters that begin otherwise than with `s/`, `g/` or `v/`, which no command of a script has, are told as bad flags
abbrev pub command_in : List ℕ → Result Command ExError
command_in characters = if is_by_pattern characters then command_of characters else Err error.BadFlags

-- a command that counts alone comes to its count, any other one to its change
abbrev pub change_or_count : Bool → Change → Substituted
change_or_count true change = Counted change.count
change_or_count false change = Becomes (record { a = change.a; b = change.b; new = change.new })

-- or the words against it
abbrev pub or_words : Bool → Result Change ExError → Result Substituted (List ℕ)
or_words counted (Ok change) = Ok (change_or_count counted change)
or_words counted (Err cause) = Err (ex_cause_text cause)

abbrev pub applied_or_words : ℕ → List (List ℕ) → ℕ → ℕ → Result Command ExError → Result Substituted (List ℕ)
applied_or_words budget text a b (Ok command) =
    or_words (is_counted command.action) (applied command text a b budget)
applied_or_words budget text a b (Err cause) = Err (ex_cause_text cause)

-- by the budget of a session: on lines `a` up to, and without, `b`, from 0
abbrev pub substituted_by : ℕ → List (List ℕ) → ℕ → ℕ → List ℕ → Result Substituted (List ℕ)
substituted_by budget text a b characters = applied_or_words budget text a b (command_in characters)

-- ---- the steps to it

-- a cause is told in its words, or memory ran out
abbrev pub IsWorded : ExError → Unedited → Type 0
IsWorded cause (unedited.Refused words) = (cause ≢ error.Memory) × (words ≡ ex_cause_text cause)
IsWorded cause unedited.Memory = ⊤
