-- The syntax that a run reads, or why there is none.
use Rattle.std.specs.Prelude.{◌≡◌, ℕ, List, [], chars, Option, Some, None, unwrap_or, Result, Ok, Err, ⊤}
use Rattle.cause_print.specs.declared.lines.FileFault.TheVariants as print
use Rattle.cause_print.specs.FaultText.{file_fault_text, refused_text}
use Rattle.program_words.specs.Given.{CheckWords}
use Rattle.syn_base.specs.Outside.{FileMap}
use Rattle.syn_reader.specs.declared.syntax.ReadError.{ReadError}
use Rattle.syn_reader.specs.declared.syntax.ReadError.TheVariants as error
use Rattle.syn_reader.specs.declared.syntax.ReadOptions.{ReadOptions}
use Rattle.syn_reader.specs.declared.syntax.Syntax.{Syntax}
use Rattle.syn_reader.specs.SyntaxOf.{failing_at, syntax_by, syntax_of, told_by}
use Rattle.syn_words.specs.declared.cause.Cause.{Cause}
use Rattle.syn_words.specs.declared.cause.Cause.TheVariants.{TooLongFile}
use Rattle.vimsyn_cli.specs.declared.fault.FaultKind.{FaultKind}
use Rattle.vimsyn_cli.specs.declared.fault.FaultKind.TheVariants as cause
use Rattle.vimsyn_cli.specs.declared.fault.Fault.{Fault}
use Rattle.vimsyn_cli.specs.declared.fault.Stop.{Stop}
use Rattle.vimsyn_cli.specs.declared.fault.Stop.TheVariants as stop

-- how the file is read
abbrev pub options_of : CheckWords → ReadOptions
options_of words = record { folder = chars words.folder; assume_fromstart = words.assume_fromstart }

-- a refusal has its cause in what a file holds, but where a file is too long
abbrev pub refused_cause : Cause → FaultKind
refused_cause (TooLongFile name) = cause.TooLong
refused_cause other = cause.Content

-- the fault that tells an error of reading; want of memory has none
abbrev pub told_of : ReadError → Option Fault
told_of (error.Refused file line why) = Some (record { line = refused_text file line why; cause = refused_cause why })
told_of (error.Missing file line name) = Some (record { line = file_fault_text file line name print.Missing; cause = cause.Missing })
told_of (error.FileFault file line name) = Some (record { line = file_fault_text file line name print.Unread; cause = cause.Unread })
told_of error.Memory = None

-- the rules of reading know no want of memory, so this is told of nothing
abbrev pub no_fault : Fault
no_fault = record { line = []; cause = cause.Content }

abbrev pub with_told : Result Syntax ReadError → Result Syntax Fault
with_told (Ok syntax) = Ok syntax
with_told (Err error) = Err (unwrap_or (told_of error) no_fault)

-- the syntax of the file and of those that it asks for, or its fault
abbrev pub syntax_told : CheckWords → FileMap → Result Syntax Fault
syntax_told words files = with_told (syntax_of files words.syntax (options_of words))

-- the stop tells the error, or memory ran out
abbrev pub IsErrorStop : ReadError → Stop → Type 0
IsErrorStop error (stop.Fault fault) = told_of error ≡ Some fault
IsErrorStop error stop.Memory = ⊤

-- a fault that tells an error of reading
pub record IsReadFault (fault : Fault) : Type 0 where
  pub error : ReadError
  pub told : told_of error ≡ Some fault

-- the line for a file that can't be read and that the rules of reading ask for: were that fetch to fail,
-- they would answer just this
pub record IsUnreadAsked (words : CheckWords) (files : FileMap) (line : List ℕ) : Type 0 where
  pub number : ℕ
  pub file : List ℕ
  pub asking : ℕ
  pub name : List ℕ
  pub asked : syntax_by (failing_at number (told_by files)) words.syntax (options_of words) ≡ Err (error.FileFault file asking name)
  pub told : line ≡ file_fault_text file asking name print.Unread
