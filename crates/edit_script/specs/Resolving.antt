-- What a command does, by the lines that its addresses name.
use Rattle.std.specs.Prelude.{ℕ, ◌+◌, ◌-◌, nat_le, nat_lt, Bool, true, false, ◌&&◌, Option, Some, None}
use Rattle.text_buffer.specs.TextOfBytes.{most_lines}
use Rattle.edit_script.specs.declared.commands.Verb.{Verb}
use Rattle.edit_script.specs.declared.commands.Verb.TheVariants.{Append, Insert, Change, Delete, Move, CopyTo, Print, Ex, Page, Folds, Syntax}
use Rattle.edit_script.specs.declared.commands.Resolved.{Resolved}
use Rattle.edit_script.specs.declared.commands.Resolved.TheVariants as does
use Rattle.edit_script.specs.declared.commands.ResolveError.{ResolveError}
use Rattle.edit_script.specs.declared.commands.ResolveError.TheVariants.{TooManyLines}
use Rattle.edit_script.specs.Edits.{line_named}

-- the line behind which a verb puts lines of the text
abbrev pub destination_line : Verb → ℕ → ℕ
destination_line (Move to) count = line_named to count
destination_line (CopyTo to) count = line_named to count
destination_line verb count = 0

abbrev pub is_into_self : Verb → ℕ → ℕ → ℕ → Bool
is_into_self (Move to) first last dest = nat_le first dest && nat_lt dest last
is_into_self verb first last dest = false

abbrev pub resolved_at : Verb → ℕ → ℕ → ℕ → Resolved
resolved_at Append first last dest = does.Replace last last
resolved_at Insert first last dest = does.Replace (first - 1) (first - 1)
resolved_at Change first last dest = does.Replace (first - 1) last
resolved_at Delete first last dest = does.Replace (first - 1) last
resolved_at (Move to) first last dest = does.Move (first - 1) last dest
resolved_at (CopyTo to) first last dest = does.CopyTo (first - 1) last dest
resolved_at Print first last dest = does.Print (first - 1) last
resolved_at (Ex text) first last dest = does.Ex (first - 1) last
resolved_at Page first last dest = does.Page
resolved_at Folds first last dest = does.Folds
resolved_at (Syntax name) first last dest = does.Syntax

abbrev pub has_too_many : ℕ → ℕ → Bool
has_too_many kept new = nat_lt most_lines (kept + new)

-- the cause, where there is one
abbrev pub told : Bool → Option ResolveError
told true = Some TooManyLines
told false = None
