-- The lines on `err`, and the statuses that go with them.
use Rattle.std.specs.Prelude.{◌≡◌, ℕ, List, ◌++◌, codes, decimal}
use Rattle.vimsyn_cli.specs.declared.status.Status.{Status}
use Rattle.vimsyn_cli.specs.declared.status.Status.TheVariants.{Refused, ReadFault}
use Rattle.vimsyn_cli.specs.declared.fault.FaultKind.{FaultKind}
use Rattle.vimsyn_cli.specs.declared.fault.FaultKind.TheVariants as cause
use Rattle.vimsyn_cli.specs.declared.fault.Fault.{Fault}
use Rattle.vimsyn_cli.specs.declared.file_fault.NamedFault.{NamedFault}
use Rattle.vimsyn_cli.specs.declared.file_fault.NamedFault.TheVariants.{Missing, Unread, TooLong, BadUtf8, LineTooLong, TooManyLines}

-- the line for words that aren't in the table
abbrev pub usage_line : List ℕ
usage_line = codes "usage: vimsyn check|spans|html|edit|large|folds [options] names\n"

-- the line for a script of too many bytes
abbrev pub long_script : List ℕ
long_script = codes "script too long\n"

-- the line for a script that can't be read
abbrev pub unread_script : List ℕ
unread_script = codes "script: read failed\n"

-- a file that is absent or can't be read is a read fault, any other fault is refused
abbrev pub cause_status : FaultKind → Status
cause_status cause.Missing = ReadFault
cause_status cause.Unread = ReadFault
cause_status cause.TooLong = Refused
cause_status cause.Content = Refused

-- what is told of a file's fault behind its name, with the number of a line where it has one
abbrev pub fault_text : NamedFault → List ℕ
fault_text Missing = codes ": no such file\n"
fault_text Unread = codes ": read failed\n"
fault_text TooLong = codes ": file too long\n"
fault_text (BadUtf8 number) = codes ":" ++ decimal number ++ codes ": bad utf-8\n"
fault_text (LineTooLong number) = codes ":" ++ decimal number ++ codes ": line too long\n"
fault_text TooManyLines = codes ": too many lines\n"

-- the line for a fault of the file of this name
abbrev pub fault_line : List ℕ → NamedFault → List ℕ
fault_line name fault = name ++ fault_text fault

abbrev pub cause_of : NamedFault → FaultKind
cause_of Missing = cause.Missing
cause_of Unread = cause.Unread
cause_of TooLong = cause.TooLong
cause_of (BadUtf8 number) = cause.Content
cause_of (LineTooLong number) = cause.Content
cause_of TooManyLines = cause.Content

abbrev pub fault_of : List ℕ → NamedFault → Fault
fault_of name fault = record { line = fault_line name fault; cause = cause_of fault }

-- a fault of the file of this name
pub record IsFaultOf (name : List ℕ) (fault : Fault) : Type 0 where
  pub what : NamedFault
  pub told : fault ≡ fault_of name what
