-- The commands of a whole file, up to the first that is refused.
use Rattle.std.specs.Prelude.{ℕ, nat_eq, List, [], ◌∷◌, ◌++◌, Option, Some, None, Bool, true, false, if◌then◌else◌, Result, Ok, Err, codes}
use Rattle.syn_lines.specs.declared.line.LogicalLine.{LogicalLine}
use Rattle.syn_lines.specs.declared.line.LogicalLines.{LogicalLines}
use Rattle.syn_lines.specs.declared.line.LogicalLines.TheVariants as lines
use Rattle.syn_lines.specs.LogicalLines.{logical_lines_of}
use Rattle.syn_words.specs.declared.cause.Cause.{Cause}
use Rattle.syn_words.specs.declared.cause.Cause.TheVariants.{BadUtf8, GuardUnfinished}
use Rattle.syn_words.specs.declared.what.What.{What}
use Rattle.syn_words.specs.declared.what.What.TheVariants.{Nothing}
use Rattle.syn_words.specs.declared.what.Commands.{Commands}
use Rattle.syn_words.specs.declared.what.WordFault.{WordFault}
use Rattle.syn_words.specs.declared.first_words.Said.{Said}
use Rattle.syn_words.specs.declared.first_words.Said.TheVariants.{Does, OpensGuard}
use Rattle.syn_words.specs.declared.file.Guard.{Guard}
use Rattle.syn_words.specs.declared.file.Guard.TheVariants.{Outside, AwaitsFinish, AwaitsEndif}
use Rattle.syn_words.specs.declared.file.Progress.{Progress}
use Rattle.syn_words.specs.Answers.{Read}
use Rattle.syn_words.specs.Commands.{command, awaited}
use Rattle.text_scan.specs.Characters.{past_blanks}
use Rattle.word_reader.specs.Words.{begins, behind_first}

abbrev pub fault_at : ℕ → Cause → WordFault
fault_at line cause = record { line = line; cause = cause }

abbrev pub with_command : Progress → ℕ → What → Progress
with_command p number w = record { list = p.list ++ record { line = number; what = w } ∷ []; guard = Outside; fault = p.fault }

abbrev pub with_guard : Progress → Guard → Progress
with_guard p guard = record { list = p.list; guard = guard; fault = p.fault }

abbrev pub with_fault : Progress → ℕ → Cause → Progress
with_fault p number cause = record { list = p.list; guard = p.guard; fault = Some (fault_at number cause) }

-- what has been read, and what is left of the line
abbrev pub Reading : Type 0
Reading = Progress × List ℕ

abbrev pub with_said : Progress → ℕ → Said → Progress
with_said p number (Does w) = with_command p number w
with_said p number OpensGuard = with_guard p (AwaitsFinish number)

-- outside the guard: a command, or the guard's `if`
abbrev pub by_said : Progress → ℕ → Read Said → Reading
by_said p number (Ok said) = (with_said p number said.0, said.1)
by_said p number (Err cause) = (with_fault p number cause, [])

-- a guard that isn't finished is refused where its `if` stands
abbrev pub guard_fault : Progress → ℕ → ℕ → Cause → Progress
guard_fault p opened number GuardUnfinished = with_fault p opened GuardUnfinished
guard_fault p opened number cause = with_fault p number cause

-- behind the `if` of line `opened`
abbrev pub by_finish : Progress → ℕ → ℕ → Result (List ℕ) Cause → Reading
by_finish p opened number (Ok rest) = (with_guard p (AwaitsEndif opened), rest)
by_finish p opened number (Err cause) = (guard_fault p opened number cause, [])

-- behind the `finish`; the three are one command, in the line of the `if`
abbrev pub by_endif : Progress → ℕ → ℕ → Result (List ℕ) Cause → Reading
by_endif p opened number (Ok rest) = (with_command p opened Nothing, rest)
by_endif p opened number (Err cause) = (guard_fault p opened number cause, [])

abbrev pub outside : Progress → ℕ → List ℕ → Reading
outside p number text = by_said p number (command text)

abbrev pub finish : Progress → ℕ → ℕ → List ℕ → Reading
finish p opened number text = by_finish p opened number (awaited (codes "finish") text)

abbrev pub endif : Progress → ℕ → ℕ → List ℕ → Reading
endif p opened number text = by_endif p opened number (awaited (codes "endif") text)

-- the command that begins here, in the line of this number
abbrev pub read_by : Guard → Progress → ℕ → List ℕ → Reading
read_by Outside p number text = outside p number text
read_by (AwaitsFinish opened) p number text = finish p opened number text
read_by (AwaitsEndif opened) p number text = endif p opened number text

-- a bar, or a command
abbrev pub read_one : Progress → ℕ → List ℕ → Reading
read_one p number text = if begins 124 text then (p, behind_first text) else read_by p.guard p number text

-- nothing begins here up to the end of the line
abbrev pub line_is_over : List ℕ → Bool
line_is_over [] = true
line_is_over (c ∷ cs) = nat_eq c 34

abbrev pub is_refused : Progress → Bool
is_refused p = elim p.fault [ None ↦ false | Some fault ↦ true ]

-- The commands of a line from here on. Each takes a character at least, so as many turns as characters are enough.
abbrev pub line_after : Progress → ℕ → List ℕ → List ℕ → Progress
line_after p number [] text = p
line_after p number (t ∷ turns) text =
    if line_is_over (past_blanks text) then p
    else line_after (read_one p number (past_blanks text)).0 number turns (read_one p number (past_blanks text)).1

abbrev pub with_line : Progress → LogicalLine → Progress
with_line p line = line_after p line.number line.text line.text

-- the lines from here on, up to a fault
abbrev pub lines_after : Progress → List LogicalLine → Progress
lines_after p [] = p
lines_after p (line ∷ lines) = if is_refused p then p else lines_after (with_line p line) lines

-- at the end of the file: a guard that still awaits a command is not finished
abbrev pub open_guard : Guard → Option WordFault
open_guard Outside = None
open_guard (AwaitsFinish opened) = Some (fault_at opened GuardUnfinished)
open_guard (AwaitsEndif opened) = Some (fault_at opened GuardUnfinished)

abbrev pub or_guard : Option WordFault → Guard → Option WordFault
or_guard (Some fault) guard = Some fault
or_guard None guard = open_guard guard

abbrev pub whole : Progress → Commands
whole p = record { list = p.list; fault = or_guard p.fault p.guard }

abbrev pub no_progress : Progress
no_progress = record { list = []; guard = Outside; fault = None }

abbrev pub commands_in : LogicalLines → Commands
commands_in (lines.BadUtf8 line) = record { list = []; fault = Some (fault_at line BadUtf8) }
commands_in (lines.Lines lines) = whole (lines_after no_progress lines)

-- the commands of a file up to the first that is refused, with the line and the cause of that one
abbrev pub commands_of : List ℕ → Commands
commands_of bytes = commands_in (logical_lines_of bytes)
