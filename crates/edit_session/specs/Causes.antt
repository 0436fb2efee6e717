-- The words for a command that is refused.
use Rattle.std.specs.Prelude.{ℕ, List, [], ◌++◌, codes, decimal}
use Rattle.edit_script.specs.declared.commands.ScriptFault.{ScriptFault}
use Rattle.edit_script.specs.declared.commands.ScriptFault.TheVariants.{BadCommand, BadAddress, UnfinishedText, BadUtf8, LongLine}
use Rattle.edit_script.specs.declared.commands.ResolveError.{ResolveError}
use Rattle.edit_script.specs.declared.commands.ResolveError.TheVariants.{NoLine, Backwards, MoveIntoSelf, TooManyLines}

-- what stands in the script is no command
abbrev pub fault_label : ScriptFault → List ℕ
fault_label BadUtf8 = codes "bad utf-8"
fault_label LongLine = codes "line too long"
fault_label BadCommand = codes "bad command"
fault_label BadAddress = codes "bad address"
fault_label UnfinishedText = codes "unfinished text"

-- a command doesn't fit the text as it is
abbrev pub misfit_label : ResolveError → List ℕ
misfit_label (NoLine number) = codes "no line "
misfit_label Backwards = codes "backwards range"
misfit_label MoveIntoSelf = codes "move into itself"
misfit_label TooManyLines = codes "too many lines"

-- an address that lies outside is told with its number
abbrev pub number_text : ResolveError → List ℕ
number_text (NoLine number) = decimal number
number_text misfit = []

abbrev pub misfit_text : ResolveError → List ℕ
misfit_text misfit = misfit_label misfit ++ number_text misfit
