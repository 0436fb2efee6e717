-- Stops for a file that the words name.
use Rattle.std.specs.Prelude.{◌≡◌, ◌≢◌, ℕ, List, Result, Ok, Err, ⊤}
use Rattle.syn_base.specs.Outside.{FileMap}
use Rattle.text_buffer.specs.TextSeen.{TextSeen}
use Rattle.text_buffer.specs.declared.TextError.{TextError}
use Rattle.text_buffer.specs.declared.TextError.TheVariants.{Memory as OutOfMemory}
use Rattle.vimsyn_cli.specs.declared.fault.Fault.{Fault as FaultOf}
use Rattle.vimsyn_cli.specs.declared.fault.Stop.{Stop}
use Rattle.vimsyn_cli.specs.declared.fault.Stop.TheVariants.{Fault, Memory}
use Rattle.vimsyn_cli.specs.declared.file_fault.NamedFault.TheVariants.{Unread}
use Rattle.vimsyn_cli.specs.Painting.{lines_told}
use Rattle.vimsyn_cli.specs.Plans.{IsExpected}
use Rattle.vimsyn_cli.specs.Report.{fault_line, fault_of}
use Rattle.vimsyn_cli.specs.TextFault.{text_fault}

-- the stop tells this fault, or memory ran out
abbrev pub IsStop : FaultOf → Stop → Type 0
IsStop expected (Fault fault) = fault ≡ expected
IsStop expected Memory = ⊤

-- the fault of a text as a stop
abbrev pub StopsForText : List ℕ → TextError → Stop → Type 0
StopsForText name error (Fault fault) = (error ≢ OutOfMemory) × (fault ≡ fault_of name (text_fault error))
StopsForText name error Memory = ⊤

-- the line for the file of this name that can't be read
abbrev pub IsUnreadNamed : List ℕ → FileMap → List ℕ → Type 0
IsUnreadNamed name files line = line ≡ fault_line name Unread

-- a text that was read, as its lines
abbrev pub lines_of : Result TextSeen Stop → Result (List (List ℕ)) Stop
lines_of (Ok text) = Ok text.lines
lines_of (Err stop) = Err stop

-- the lines of bytes that were read, or their fault
abbrev pub IsLinesOf : List ℕ → List ℕ → Result TextSeen Stop → Type 0
IsLinesOf name bytes result = IsExpected (lines_told name bytes) (λ line. ⊥) (lines_of result)
