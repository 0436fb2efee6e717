-- What a run writes on `out` and on `err`, and its status.
use Rattle.std.specs.Prelude.{ℕ, List, []}
use Rattle.vimsyn_cli.specs.declared.fault.Fault.{Fault}
use Rattle.vimsyn_cli.specs.declared.status.Status.{Status}
use Rattle.vimsyn_cli.specs.declared.status.Status.TheVariants.{Done}
use Rattle.vimsyn_cli.specs.Report.{cause_status}

pub record Session : Type 0 where
  pub out : List ℕ
  pub err : List ℕ
  pub status : Status

-- a run that prints what it was asked
abbrev pub shows : List ℕ → Session
shows bytes = record { out = bytes; err = []; status = Done }

-- a run that ends with a line on `err`
abbrev pub tells : List ℕ → Status → Session
tells line status = record { out = []; err = line; status = status }

-- a run that a fault ends
abbrev pub ends : Fault → Session
ends fault = tells fault.line (cause_status fault.cause)
