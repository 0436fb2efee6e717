-- What a step of a run comes to, a value or a fault, against what the files say; and which count of the
-- files each fault raises.
use Rattle.std.specs.Prelude.{◌≡◌, ℕ, Bool, true, false, List, Option, IfSome, Result, Ok, Err, ⊤}
use Rattle.syn_base.specs.Causes.{Counted}
use Rattle.syn_base.specs.Outside.{FileMap}
use Rattle.vimsyn_cli.specs.declared.fault.FaultKind.{FaultKind}
use Rattle.vimsyn_cli.specs.declared.fault.FaultKind.TheVariants.{Missing, Unread, TooLong, Content}
use Rattle.vimsyn_cli.specs.declared.fault.Fault.{Fault as FaultOf}
use Rattle.vimsyn_cli.specs.declared.fault.Stop.{Stop}
use Rattle.vimsyn_cli.specs.declared.fault.Stop.TheVariants.{Fault, Memory}

-- which cause raises which count
abbrev pub is_unread : FaultKind → Bool
is_unread Missing = false
is_unread Unread = true
is_unread TooLong = false
is_unread Content = false

abbrev pub is_missing : FaultKind → Bool
is_missing Missing = true
is_missing Unread = false
is_missing TooLong = false
is_missing Content = false

abbrev pub is_too_long : FaultKind → Bool
is_too_long Missing = false
is_too_long Unread = false
is_too_long TooLong = true
is_too_long Content = false

-- The count rose where the answer is a stop for such a cause, and else it is as it was. Want of memory
-- says nothing of it.
abbrev pub RaisesItsCount : {A : Type 0} → (FaultKind → Bool) → Result A Stop → ℕ → ℕ → Type 0
RaisesItsCount test (Ok value) before now = now ≡ before
RaisesItsCount test (Err (Fault fault)) before now = Counted (test fault.cause) before now
RaisesItsCount test (Err Memory) before now = ⊤

-- the fact holds of the fault, if the answer is one
abbrev pub IfFault : {A : Type 0} → Result A Stop → (FaultOf → Type 0) → Type 0
IfFault (Ok value) P = ⊤
IfFault (Err (Fault fault)) P = P fault
IfFault (Err Memory) P = ⊤

-- the cause raises no count: it lies in the bytes of a file that was read
abbrev pub IsOfContent : FaultOf → Type 0
IsOfContent fault = fault.cause ≡ Content

-- the files' map decides each cause but one: a file in it couldn't be read all the same
abbrev pub OrUnread : FaultKind → Type 0 → Type 0 → Type 0
OrUnread Missing unread planned = planned
OrUnread Unread unread planned = unread
OrUnread TooLong unread planned = planned
OrUnread Content unread planned = planned

-- the value or the fault is the expected one, or the fault's line is one for a file that couldn't be read
abbrev pub IsExpected : {A : Type 0} → Result A FaultOf → (List ℕ → Type 0) → Result A Stop → Type 0
IsExpected expected IsUnread (Ok value) = expected ≡ Ok value
IsExpected expected IsUnread (Err (Fault fault)) = OrUnread fault.cause (IsUnread fault.line) (expected ≡ Err fault)
IsExpected expected IsUnread (Err Memory) = ⊤

-- the same of what is expected of files that tell their bytes
abbrev pub FollowsFiles : {A : Type 0} → Option FileMap → (FileMap → Result A FaultOf) → (FileMap → List ℕ → Type 0) → Result A Stop → Type 0
FollowsFiles told expected IsUnread result = IfSome told (λ files. IsExpected (expected files) (IsUnread files) result)

-- what follows a value
abbrev pub and_then : {A B : Type 0} → Result A FaultOf → (A → Result B FaultOf) → Result B FaultOf
and_then (Ok value) f = f value
and_then (Err fault) f = Err fault
