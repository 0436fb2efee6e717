-- Steps of a run, one after the other, against what the files say.
use Rattle.std.proofs.Common.{◌≡◌, ℕ, false, List, ap, subst, sym, ◌∙◌}
use Rattle.std.specs.Prelude.{Option, Some, None, Result, Ok, Err, IfSome, unwrap_or}
use Rattle.syn_base.specs.Outside.{FileMap}
use Rattle.vimsyn_cli.specs.declared.fault.FaultKind.{FaultKind}
use Rattle.vimsyn_cli.specs.declared.fault.FaultKind.TheVariants as cause
use Rattle.vimsyn_cli.specs.declared.fault.Fault.{Fault as FaultOf}
use Rattle.vimsyn_cli.specs.declared.fault.Stop.{Stop}
use Rattle.vimsyn_cli.specs.declared.fault.Stop.TheVariants as stop
use Rattle.vimsyn_cli.specs.Plans.{FollowsFiles, IsExpected, OrUnread, and_then, is_unread}
use Rattle.vimsyn_cli.specs.Session.{session_told}
use Rattle.vimsyn_cli.specs.Written.{Session, ends, shows}

pub some_is : {A : Type 0} (a b : A) → Some a ≡ Some b → a ≡ b
some_is a b same = ap (λ o. unwrap_or o a) same

pub decided_or : (cause : FaultKind) (unread planned : Type 0) → is_unread cause ≡ false → planned → OrUnread cause unread planned
decided_or cause.Missing unread planned known p = p
decided_or cause.Unread unread planned known p = absurd cc
decided_or cause.TooLong unread planned known p = p
decided_or cause.Content unread planned known p = p

-- what a decided cause, or a line of a file that couldn't be read, leads to
pub led : (cause : FaultKind) (unread planned more further : Type 0) → (unread → more) → (planned → further) → OrUnread cause unread planned → OrUnread cause more further
led cause.Missing unread planned more further u f p = f p
led cause.Unread unread planned more further u f p = u p
led cause.TooLong unread planned more further u f p = f p
led cause.Content unread planned more further u f p = f p

-- a line that is one of the first kind is one of the second
abbrev pub Covers : (FileMap → List ℕ → Type 0) → (FileMap → List ℕ → Type 0) → Type 0
Covers U V = (files : FileMap) (line : List ℕ) → V files line → U files line

stopped_in : {A B : Type 0} (e : Result A FaultOf) (f : A → Result B FaultOf) (V U : List ℕ → Type 0) (why : Stop) → ((line : List ℕ) → V line → U line) → IsExpected e V (Err why) → IsExpected (and_then e f) U (Err why)
stopped_in e f V U stop.Memory more is = tt
stopped_in {A = A} e f V U (stop.Fault fault) more is =
    led fault.cause (V fault.line) (e ≡ Err fault) (U fault.line) (and_then e f ≡ Err fault) (more fault.line) (λ at. ap (λ (x : Result A FaultOf). and_then x f) at) is

-- a step that stops stops what would follow
pub stopped : {A B : Type 0} (told : Option FileMap) (E : FileMap → Result A FaultOf) (f : FileMap → A → Result B FaultOf) (V U : FileMap → List ℕ → Type 0) (why : Stop) (result : Result B Stop) →
    Covers U V → FollowsFiles told E V (Err why) → result ≡ Err why → FollowsFiles told (λ files. and_then (E files) (f files)) U result
stopped None E f V U why result more is same = tt
stopped (Some files) E f V U why result more is same = rw same (stopped_in (E files) (f files) (V files) (U files) why (more files) is)

next_in : {A B : Type 0} (e : Result A FaultOf) (f : A → Result B FaultOf) (W U : List ℕ → Type 0) (a : A) (result : Result B Stop) → e ≡ Ok a → ((line : List ℕ) → W line → U line) → IsExpected (f a) W result → IsExpected (and_then e f) U result
next_in {A = A} e f W U a (Ok b) is more then = ap (λ (x : Result A FaultOf). and_then x f) is ∙ then
next_in e f W U a (Err stop.Memory) is more then = tt
next_in {A = A} e f W U a (Err (stop.Fault fault)) is more then =
    led fault.cause (W fault.line) (f a ≡ Err fault) (U fault.line) (and_then e f ≡ Err fault) (more fault.line) (λ at. ap (λ (x : Result A FaultOf). and_then x f) is ∙ at) then

-- a value, and what follows it
pub followed : {A B : Type 0} (told after : Option FileMap) (E : FileMap → Result A FaultOf) (f : FileMap → A → Result B FaultOf) (V W U : FileMap → List ℕ → Type 0) (a : A) (result : Result B Stop) →
    after ≡ told → ((files : FileMap) (line : List ℕ) → E files ≡ Ok a → W files line → U files line) → FollowsFiles told E V (Ok a) → FollowsFiles after (λ files. f files a) W result → FollowsFiles told (λ files. and_then (E files) (f files)) U result
followed None after E f V W U a result same more is then = tt
followed (Some files) after E f V W U a result same more is then =
    let P : Option FileMap → Type 0 = λ o. FollowsFiles o (λ files. f files a) W result in
    next_in (E files) (f files) (W files) (U files) a result is (λ line. more files line is) (subst P same then)

-- what no file decides
pub always : {A : Type 0} (told : Option FileMap) (e : Result A FaultOf) (U : List ℕ → Type 0) (result : Result A Stop) → IsExpected e U result → FollowsFiles told (λ files. e) (λ files. U) result
always None e U result is = tt
always (Some files) e U result is = is

-- the bytes of a value
pub value : {A B : Type 0} (told : Option FileMap) (E : FileMap → Result A FaultOf) (f : A → B) (U : FileMap → List ℕ → Type 0) (a : A) (b : B) → FollowsFiles told E U (Ok a) → b ≡ f a → FollowsFiles told (λ files. and_then (E files) (λ x. Ok (f x))) U (Ok b)
value None E f U a b is at = tt
value {A = A} (Some files) E f U a b is at = ap (λ (x : Result A FaultOf). and_then x (λ y. Ok (f y))) is ∙ ap (λ (y : _). Ok y) (sym at)

pub out_of_memory : {A : Type 0} (told : Option FileMap) (E : FileMap → Result A FaultOf) (U : FileMap → List ℕ → Type 0) (result : Result A Stop) → result ≡ Err stop.Memory → FollowsFiles told E U result
out_of_memory None E U result is = tt
out_of_memory (Some files) E U result is = rw is tt

-- ---- bytes as a session

-- the bytes, or the line of a fault, are those of the session, or the line is one for a file that couldn't be read
abbrev pub Plans : Session → (List ℕ → Type 0) → Result (List ℕ) Stop → Type 0
Plans session IsUnread (Ok bytes) = session ≡ shows bytes
Plans session IsUnread (Err (stop.Fault fault)) = OrUnread fault.cause (IsUnread fault.line) (session ≡ ends fault)
Plans session IsUnread (Err stop.Memory) = Unit {0}

planned_in : (e : Result (List ℕ) FaultOf) (U : List ℕ → Type 0) (result : Result (List ℕ) Stop) → IsExpected e U result → Plans (session_told e) U result
planned_in e U (Ok bytes) is = ap session_told is
planned_in e U (Err stop.Memory) is = tt
planned_in e U (Err (stop.Fault fault)) is =
    led fault.cause (U fault.line) (e ≡ Err fault) (U fault.line) (session_told e ≡ ends fault) (λ u. u) (λ at. ap session_told at) is

pub planned : (told : Option FileMap) (E : FileMap → Result (List ℕ) FaultOf) (U : FileMap → List ℕ → Type 0) (result : Result (List ℕ) Stop) → FollowsFiles told E U result → IfSome told (λ files. Plans (session_told (E files)) (U files) result)
planned None E U result is = tt
planned (Some files) E U result is = planned_in (E files) (U files) result is
