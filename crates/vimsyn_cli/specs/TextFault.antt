-- Faults of texts as faults of files.
use Rattle.std.specs.Prelude.{◌+◌}
use Rattle.text_buffer.specs.declared.TextError.{TextError}
use Rattle.text_buffer.specs.declared.TextError.TheVariants as text
use Rattle.vimsyn_cli.specs.declared.file_fault.NamedFault.{NamedFault}
use Rattle.vimsyn_cli.specs.declared.file_fault.NamedFault.TheVariants.{BadUtf8, LineTooLong, TooManyLines}

-- the fault of a text, with its line counted from 1; a text never has the fault `Memory`
abbrev pub text_fault : TextError → NamedFault
text_fault (text.BadUtf8 line) = BadUtf8 (line + 1)
text_fault text.TooManyLines = TooManyLines
text_fault (text.LineTooLong line) = LineTooLong (line + 1)
text_fault text.Memory = TooManyLines
