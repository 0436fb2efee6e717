-- A session of edits: the commands of a script, carried out one after the other on the text as it is and by
-- the syntax then in force. The text is painted anew, from its first line on, at each command that changes
-- either.
use Rattle.std.specs.Prelude.{ℕ, ◌+◌, ◌-◌, ◌||◌, nat_lt, Bool, true, false, List, [], ◌∷◌, ◌++◌, length, take, slice_range, get_or, codes, decimal, Option, Some, None, Result, Ok, Err, if◌then◌else◌}
use Rattle.std.specs.List.{range_with_len}
use Rattle.syn_base.specs.declared.places.Span.{Span}
use Rattle.command_print.specs.CommandText.{head_text, refusal_text}
use Rattle.edit_script.specs.declared.commands.EditCommand.{EditCommand}
use Rattle.edit_script.specs.declared.commands.Entry.{Entry}
use Rattle.edit_script.specs.declared.commands.ResolveError.{ResolveError}
use Rattle.edit_script.specs.declared.commands.Resolved.{Resolved}
use Rattle.edit_script.specs.declared.commands.Resolved.TheVariants.{Replace, Move, CopyTo, Print, Ex, Page, Folds, Syntax}
use Rattle.edit_script.specs.declared.commands.ScriptFault.{ScriptFault}
use Rattle.edit_script.specs.declared.commands.Verb.{Verb}
use Rattle.edit_script.specs.declared.commands.Verb.TheVariants as verb
use Rattle.edit_script.specs.Edits.{Replacement, lines_become, moved, put_in_place, replaced, resolved_of}
use Rattle.edit_script.specs.Entries.{entries_at_end, entries_of}
use Rattle.edit_session.specs.declared.changes.Substituted.{Substituted}
use Rattle.edit_session.specs.declared.changes.Substituted.TheVariants.{Becomes, Counted}
use Rattle.edit_session.specs.Causes.{fault_label, misfit_text}
use Rattle.edit_session.specs.Painter.{Library, Painter, Painted, syntax_costs, told_lines, told_otherwise}

-- ---- one command

-- what stands between two commands: how many there were, the painter by the syntax in force, the painted
-- text, whether a command was refused, and whether one named a syntax of which a file is too long
pub record Standing : Type 0 where
  pub number : ℕ
  pub painter : Painter
  pub painted : Painted
  pub refused : Bool
  pub met_long : Bool

-- before the first command
abbrev pub start : Painter → Painted → Standing
start painter painted =
    record { number = 0; painter = painter; painted = painted; refused = false; met_long = false }

-- what a command prints, the names of the syntaxes that it asks for, and what stands behind it
pub record Answer : Type 0 where
  pub text : List ℕ
  pub asked : List (List ℕ)
  pub stands : Standing

-- a refused command tells its number, the line of the script and the cause, and changes nothing
abbrev pub refuses : Standing → ℕ → List ℕ → Answer
refuses s line cause = record {
  text = refusal_text (s.number + 1) line cause;
  asked = [];
  stands = record s { number = s.number + 1; refused = true };
}

-- any other one prints its head, and behind it what it is for
abbrev pub prints : Standing → Painted → List ℕ → Answer
prints s painted text = record {
  text = head_text (s.number + 1) ++ text;
  asked = [];
  stands = record s { number = s.number + 1; painted = painted };
}

-- the span lines of the lines of these numbers
abbrev pub lines_text : Painter → List (List Span) → List ℕ → List ℕ
lines_text p spans [] = []
lines_text p spans (number ∷ numbers) = p.line number (get_or spans number []) ++ lines_text p spans numbers

-- the text is changed, and painted anew
abbrev pub with_painting : Standing → ℕ → Replacement → Result (List (List Span)) (List ℕ) → Answer
with_painting s line r (Ok spans) =
    prints s (record { text = replaced s.painted.text r; spans = spans })
    (lines_text s.painter spans (told_lines s.painter s.painted.spans spans r))
with_painting s line r (Err cause) = refuses s line cause

abbrev pub edits : Standing → ℕ → Replacement → Answer
edits s line r = with_painting s line r (s.painter.paint (replaced s.painted.text r))

-- the text is painted by another painter, which is in force from then on
abbrev pub with_painter : Standing → ℕ → Painter → Result (List (List Span)) (List ℕ) → Answer
with_painter s line q (Ok spans) = record {
  text = head_text (s.number + 1) ++ lines_text q spans (told_otherwise s.painter q s.painted.spans spans);
  asked = [];
  stands = record s {
    number = s.number + 1;
    painter = q;
    painted = record { text = s.painted.text; spans = spans };
  };
}
with_painter s line q (Err cause) = refuses s line cause

-- what its file came to
abbrev pub with_syntax : Standing → ℕ → Result Painter (List ℕ) → Answer
with_syntax s line (Ok q) = with_painter s line q (q.paint s.painted.text)
with_syntax s line (Err cause) = refuses s line cause

-- where a file of the syntax is too long, that is marked
abbrev pub marked : Bool → Answer → Answer
marked is_long answer =
    record answer { stands = record answer.stands { met_long = is_long || (answer.stands).met_long } }

-- the syntax of this name is asked for
abbrev pub asks : List ℕ → Answer → Answer
asks name answer = record { text = answer.text; asked = name ∷ []; stands = answer.stands }

abbrev pub takes_syntax : Library → Standing → ℕ → List ℕ → Answer
takes_syntax library s line name =
    asks name (marked (library.is_long name) (with_syntax s line (library.reads name)))

-- how many matches were counted
abbrev pub count_text : ℕ → List ℕ
count_text count = decimal count ++ codes " matches\n"

-- what a command by pattern came to: a change of the text, a count that leaves it, or the words against it
abbrev pub substitutes : Standing → ℕ → Result Substituted (List ℕ) → Answer
substitutes s line (Ok (Becomes r)) = edits s line r
substitutes s line (Ok (Counted count)) = prints s s.painted (count_text count)
substitutes s line (Err words) = refuses s line words

-- the characters of a command by pattern
abbrev pub ex_text : Verb → List ℕ
ex_text (verb.Ex text) = text
ex_text other = []

-- a command that fits the actual text; the name of a syntax isn't part of what is resolved, so that command is answered
-- apart
abbrev pub carries_out : Standing → ℕ → EditCommand → Resolved → Answer
carries_out s line command (Replace a b) = edits s line (put_in_place s.painted.text a b command.lines)
carries_out s line command (Move a b dest) = edits s line (moved s.painted.text a b dest)
carries_out s line command (CopyTo a b dest) = edits s line (lines_become dest dest (slice_range s.painted.text a b))
carries_out s line command (Print a b) = prints s s.painted (lines_text s.painter s.painted.spans (range_with_len a (b - a)))
carries_out s line command (Ex a b) = substitutes s line (s.painter.substitute s.painted.text a b (ex_text command.verb))
carries_out s line command Page = prints s s.painted (s.painter.page s.painted.text s.painted.spans)
carries_out s line command Folds = prints s s.painted (s.painter.folds s.painted.text)
carries_out s line command Syntax = prints s s.painted []

-- where it doesn't fit, it is refused
abbrev pub obeys : Standing → ℕ → EditCommand → Result Resolved ResolveError → Answer
obeys s line command (Ok resolved) = carries_out s line command resolved
obeys s line command (Err misfit) = refuses s line (misfit_text misfit)

-- the syntax that a command names
abbrev pub syntax_named : Verb → Option (List ℕ)
syntax_named (verb.Syntax name) = Some name
syntax_named other = None

abbrev pub does : Library → Standing → ℕ → EditCommand → Option (List ℕ) → Answer
does library s line command (Some name) = takes_syntax library s line name
does library s line command None = obeys s line command (resolved_of command (length s.painted.text))

-- what stands in a line of the script: a command, or what is none
abbrev pub answers : Library → Standing → ℕ → Result EditCommand ScriptFault → Answer
answers library s line (Ok command) = does library s line command (syntax_named command.verb)
answers library s line (Err fault) = refuses s line (fault_label fault)

-- ---- a script

-- an answer behind what was answered before
abbrev pub behind : Answer → Answer → Answer
behind first answer = record {
  text = first.text ++ answer.text;
  asked = first.asked ++ answer.asked;
  stands = answer.stands;
}

-- before all commands
abbrev pub nothing_at : Standing → Answer
nothing_at s = record { text = []; asked = []; stands = s }

-- the commands one after the other, each where the one before it left off
abbrev pub session : Library → Standing → List Entry → Answer
session library s [] = nothing_at s
session library s (entry ∷ entries) =
    let own = answers library s entry.line entry.what in behind own (session library own.stands entries)

-- ---- what a command comes to

-- the change that a command by pattern comes to, where it only counts none; or the words against it
abbrev pub change_in : Result Substituted (List ℕ) → Result (Option Replacement) (List ℕ)
change_in (Ok (Becomes r)) = Ok (Some r)
change_in (Ok (Counted count)) = Ok None
change_in (Err words) = Err words

-- the change of a text that a command comes to which fits it, where it is an edit
abbrev pub change_by : Painter → List (List ℕ) → EditCommand → Resolved → Result (Option Replacement) (List ℕ)
change_by p text command (Replace a b) = Ok (Some (put_in_place text a b command.lines))
change_by p text command (Move a b dest) = Ok (Some (moved text a b dest))
change_by p text command (CopyTo a b dest) = Ok (Some (lines_become dest dest (slice_range text a b)))
change_by p text command (Print a b) = Ok None
change_by p text command (Ex a b) = change_in (p.substitute text a b (ex_text command.verb))
change_by p text command Page = Ok None
change_by p text command Folds = Ok None
change_by p text command Syntax = Ok None

abbrev pub change_or_words :
    Painter → List (List ℕ) → EditCommand → Result Resolved ResolveError → Result (Option Replacement) (List ℕ)
change_or_words p text command (Ok resolved) = change_by p text command resolved
change_or_words p text command (Err misfit) = Err (misfit_text misfit)

-- what a command comes to on a text, which has at least one line: a change, nothing, or the words against it
abbrev pub change_of : Painter → List (List ℕ) → EditCommand → Result (Option Replacement) (List ℕ)
change_of p text command = change_or_words p text command (resolved_of command (length text))

-- ---- how many lines it may paint

-- those of the change that a command comes to, where it comes to one
abbrev pub change_costs : Painter → List (List ℕ) → Result (Option Replacement) (List ℕ) → ℕ
change_costs p text (Ok (Some r)) = p.costs text r
change_costs p text (Ok None) = 0
change_costs p text (Err words) = 0

abbrev pub command_costs : Library → Standing → EditCommand → Option (List ℕ) → ℕ
command_costs library s command (Some name) = syntax_costs (library.reads name) s.painted.text
command_costs library s command None = change_costs s.painter s.painted.text (change_of s.painter s.painted.text command)

-- what stands in a line of the script: what is no command paints nothing
abbrev pub what_costs : Library → Standing → Result EditCommand ScriptFault → ℕ
what_costs library s (Ok command) = command_costs library s command (syntax_named command.verb)
what_costs library s (Err fault) = 0

-- on the text as it is then; a change whose painting is refused counts too
abbrev pub entry_costs : Library → Standing → Entry → ℕ
entry_costs library s entry = what_costs library s entry.what

-- each command on what stands behind those before it
abbrev pub session_costs : Library → Standing → List Entry → ℕ
session_costs library s [] = 0
session_costs library s (entry ∷ entries) =
    entry_costs library s entry + session_costs library (answers library s entry.line entry.what).stands entries

-- ---- its bytes

-- the most bytes of a script, 64 MiB
abbrev pub most_bytes : ℕ
most_bytes = 67108864

abbrev pub is_too_long : List ℕ → Bool
is_too_long bytes = nat_lt most_bytes (length bytes)

-- the commands of a script that are read: all, or of one that is too long those whose last line is whole,
-- with its line break, within the most bytes
abbrev pub entries_read : List ℕ → List Entry
entries_read bytes = if is_too_long bytes then entries_of 0 (take most_bytes bytes) else entries_at_end 0 bytes

-- the session of a script, from its bytes
abbrev pub script_session : Library → Standing → List ℕ → Answer
script_session library s bytes = session library s (entries_read bytes)

-- how many lines it may paint
abbrev pub script_costs : Library → Standing → List ℕ → ℕ
script_costs library s bytes = session_costs library s (entries_read bytes)
