-- What a command does to a text. Addresses count lines from 1; line 0 stands before the first one,
-- and only what puts lines behind a line takes it, and `i`, for which it is as 1. The result speaks
-- of lines from 0, half open.
use Rattle.std.specs.Prelude.{ℕ, ◌+◌, ◌-◌, ◌<◌, ◌≤◌, nat_eq, nat_le, nat_lt, ◌&&◌, ◌||◌, List, [], ◌∷◌, ◌++◌, length, take, drop, slice_range, Option, Some, None, Result, Ok, Err, if◌then◌else◌}
use Rattle.text_buffer.specs.TextOfBytes.{most_lines}
use Rattle.edit_script.specs.declared.commands.Last.{Last}
use Rattle.edit_script.specs.declared.commands.Last.TheVariants.{Number, End}
use Rattle.edit_script.specs.declared.commands.Verb.{Verb}
use Rattle.edit_script.specs.declared.commands.Verb.TheVariants.{Append, Insert, Change, Delete, Move, CopyTo, Print, Ex, Page, Folds, Syntax}
use Rattle.edit_script.specs.declared.commands.EditCommand.{EditCommand}
use Rattle.edit_script.specs.declared.commands.Resolved.{Resolved}
use Rattle.edit_script.specs.declared.commands.Resolved.TheVariants as does
use Rattle.edit_script.specs.declared.commands.ResolveError.{ResolveError}
use Rattle.edit_script.specs.declared.commands.ResolveError.TheVariants.{NoLine, Backwards, MoveIntoSelf, TooManyLines}

-- ---- the causes, in their order

-- the line that an address names in a text of so many lines
abbrev pub line_named : Last → ℕ → ℕ
line_named (Number n) count = n
line_named End count = count

-- an address lies outside: below the least line that the verb takes, or behind the last one
abbrev pub outside : ℕ → Last → ℕ → Option ResolveError
outside least address count =
    let n = line_named address count in
    if nat_lt n least || nat_lt count n then Some (NoLine n) else None

-- the first of two causes
abbrev pub or_else : Option ResolveError → Option ResolveError → Option ResolveError
or_else None later = later
or_else (Some cause) later = Some cause

abbrev pub least_line : Verb → ℕ
least_line Append = 0
least_line Insert = 0
least_line verb = 1

-- the destination is the last address
abbrev pub destination_outside : Verb → ℕ → Option ResolveError
destination_outside (Move to) count = outside 0 to count
destination_outside (CopyTo to) count = outside 0 to count
destination_outside verb count = None

abbrev pub backwards : ℕ → ℕ → Option ResolveError
backwards first last = if nat_lt last first then Some Backwards else None

-- the destination is at least the first and below the last line of the range
abbrev pub into_self : Verb → ℕ → ℕ → ℕ → Option ResolveError
into_self (Move to) first last count =
    if nat_le first (line_named to count) && nat_lt (line_named to count) last
    then Some MoveIntoSelf
    else None
into_self verb first last count = None

-- what the command does, if no cause stands against it: `first - 1` is 0 also for line 0
abbrev pub does_of : Verb → ℕ → ℕ → ℕ → Resolved
does_of Append first last count = does.Replace last last
does_of Insert first last count = does.Replace (first - 1) (first - 1)
does_of Change first last count = does.Replace (first - 1) last
does_of Delete first last count = does.Replace (first - 1) last
does_of (Move to) first last count = does.Move (first - 1) last (line_named to count)
does_of (CopyTo to) first last count = does.CopyTo (first - 1) last (line_named to count)
does_of Print first last count = does.Print (first - 1) last
does_of (Ex text) first last count = does.Ex (first - 1) last
does_of Page first last count = does.Page
does_of Folds first last count = does.Folds
does_of (Syntax name) first last count = does.Syntax

-- a text of so many lines would have too many afterwards; of a command by pattern its application tells
abbrev pub too_many : ℕ → Option ResolveError
too_many lines = if nat_lt most_lines lines then Some TooManyLines else None

abbrev pub too_many_lines : Resolved → ℕ → ℕ → Option ResolveError
too_many_lines (does.Replace a b) new count = too_many (count - (b - a) + new)
too_many_lines (does.Move a b dest) new count = too_many count
too_many_lines (does.CopyTo a b dest) new count = too_many (count + (b - a))
too_many_lines (does.Print a b) new count = None
too_many_lines (does.Ex a b) new count = None
too_many_lines does.Page new count = None
too_many_lines does.Folds new count = None
too_many_lines does.Syntax new count = None

-- the first cause: the addresses from the left, then the range, the destination in it, the count
abbrev pub first_cause : EditCommand → ℕ → Option ResolveError
first_cause command count =
    let first = line_named command.first count in
    let last = line_named command.last count in
    or_else (outside (least_line command.verb) command.first count)
    (or_else (outside (least_line command.verb) command.last count)
    (or_else (destination_outside command.verb count)
    (or_else (backwards first last)
    (or_else (into_self command.verb first last count)
    (too_many_lines (does_of command.verb first last count) (length command.lines) count)))))

abbrev pub unless : Option ResolveError → Resolved → Result Resolved ResolveError
unless None resolved = Ok resolved
unless (Some cause) resolved = Err cause

-- what a command does to a text of so many lines
abbrev pub resolved_of : EditCommand → ℕ → Result Resolved ResolveError
resolved_of command count =
    unless (first_cause command count)
    (does_of command.verb (line_named command.first count) (line_named command.last count) count)

-- what can be done in a text of so many lines: the lines lie in it, and lines that are moved don't
-- come between two of their own
abbrev pub IsWithin : Resolved → ℕ → Type 0
IsWithin (does.Replace a b) count = (a ≤ b) × (b ≤ count)
IsWithin (does.Move a b dest) count = (a < b) × (b ≤ count) × (dest ≤ count) × (a < dest → b ≤ dest)
IsWithin (does.CopyTo a b dest) count = (a < b) × (b ≤ count) × (dest ≤ count)
IsWithin (does.Print a b) count = (a < b) × (b ≤ count)
IsWithin (does.Ex a b) count = (a < b) × (b ≤ count)
IsWithin does.Page count = Unit {0}
IsWithin does.Folds count = Unit {0}
IsWithin does.Syntax count = Unit {0}

-- ---- the one replacement that an edit is

-- lines `a` to `b - 1` become `new`
pub record Replacement : Type 0 where
  pub a : ℕ
  pub b : ℕ
  pub new : List (List ℕ)

abbrev pub lines_become : ℕ → ℕ → List (List ℕ) → Replacement
lines_become a b new = record { a = a; b = b; new = new }

-- a text left without lines is one empty line, which is new
abbrev pub put_in_place : List (List ℕ) → ℕ → ℕ → List (List ℕ) → Replacement
put_in_place text a b [] =
    lines_become a b (if nat_eq (length text) (b - a) then [] ∷ [] else [])
put_in_place text a b (line ∷ lines) = lines_become a b (line ∷ lines)

-- the lines from the first to the last that change their place; none where they come where they
-- stand
abbrev pub moved : List (List ℕ) → ℕ → ℕ → ℕ → Replacement
moved text a b dest =
    if nat_lt dest a then lines_become dest b (slice_range text a b ++ slice_range text dest a)
    else if nat_lt b dest then lines_become a dest (slice_range text b dest ++ slice_range text a b)
    else lines_become a a []

-- the text behind a replacement
abbrev pub replaced : List (List ℕ) → Replacement → List (List ℕ)
replaced text r = take r.a text ++ r.new ++ drop r.b text
