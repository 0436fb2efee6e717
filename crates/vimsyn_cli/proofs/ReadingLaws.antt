-- What reading a syntax comes to.
use Rattle.std.proofs.Common.{◌≡◌, ℕ, false, List, refl, ap, subst}
use Rattle.std.specs.Prelude.{Option, Some, None, Ok, Err, IfSome}
use Rattle.cause_print.specs.declared.lines.FileFault.TheVariants as print
use Rattle.cause_print.specs.FaultText.{file_fault_text, refused_text}
use Rattle.program_words.specs.Given.{CheckWords}
use Rattle.syn_base.specs.Outside.{FileMap}
use Rattle.syn_reader.specs.declared.syntax.ReadError.{ReadError}
use Rattle.syn_reader.specs.declared.syntax.ReadError.TheVariants as error
use Rattle.syn_reader.specs.declared.syntax.ReadOptions.{ReadOptions}
use Rattle.syn_reader.specs.declared.syntax.Syntax.{Syntax}
use Rattle.syn_reader.specs.Follows.{IsSyntaxOf}
use Rattle.syn_reader.specs.SyntaxOf.{syntax_of}
use Rattle.syn_words.specs.declared.cause.Cause.{Cause}
use Rattle.syn_words.specs.declared.cause.Cause.TheVariants.{TooLongFile}
use Rattle.vimsyn_cli.specs.declared.fault.FaultKind.TheVariants as cause
use Rattle.vimsyn_cli.specs.declared.fault.Fault.{Fault}
use Rattle.vimsyn_cli.specs.declared.fault.Stop.{Stop}
use Rattle.vimsyn_cli.specs.declared.fault.Stop.TheVariants as stop
use Rattle.vimsyn_cli.specs.Plans.{FollowsFiles, IsExpected, OrUnread, is_unread}
use Rattle.vimsyn_cli.specs.Reading.{IsErrorStop, IsUnreadAsked, options_of, refused_cause, syntax_told, with_told}
use Rattle.vimsyn_cli.proofs.PlanLaws.{decided_or, some_is}

-- a refusal isn't told of a file that can't be read
never_unread : (why : Cause) → is_unread (refused_cause why) ≡ false
never_unread (TooLongFile name) = refl
never_unread other = refl

-- the syntax was read
pub syntax_planned : (told : Option FileMap) (words : CheckWords) (name : List ℕ) (options : ReadOptions) (syntax : Syntax) → name ≡ words.syntax → options ≡ options_of words → IfSome told (λ known. IsSyntaxOf known name options (Ok syntax)) → FollowsFiles told (syntax_told words) (IsUnreadAsked words) (Ok syntax)
syntax_planned None words name options syntax named given read = tt
syntax_planned (Some known) words name options syntax named given read =
    let N : List ℕ → Type 0 = λ n. syntax_of known n options ≡ Ok syntax in
    let G : ReadOptions → Type 0 = λ o. syntax_of known words.syntax o ≡ Ok syntax in
    ap with_told (subst G given (subst N named read))

-- it wasn't, and the stop tells why
error_planned_in : (known : FileMap) (words : CheckWords) (error : ReadError) (why : Stop) → IsSyntaxOf known words.syntax (options_of words) (Err error) → IsErrorStop error why → IsExpected (syntax_told words known) (IsUnreadAsked words known) (Err why)
error_planned_in known words error stop.Memory read told = tt
error_planned_in known words error.Memory (stop.Fault fault) read told = absurd cc
error_planned_in known words (error.Refused file line cause) (stop.Fault fault) read told =
    let P : Fault → Type 0 = λ f. OrUnread f.cause (IsUnreadAsked words known f.line) (syntax_told words known ≡ Err f) in
    let is : Fault = record { line = refused_text file line cause; cause = refused_cause cause } in
    subst P (some_is is fault told)
    (decided_or (refused_cause cause) (IsUnreadAsked words known is.line) (syntax_told words known ≡ Err is) (never_unread cause) (ap with_told read))
error_planned_in known words (error.Missing file line name) (stop.Fault fault) read told =
    let P : Fault → Type 0 = λ f. OrUnread f.cause (IsUnreadAsked words known f.line) (syntax_told words known ≡ Err f) in
    let is : Fault = record { line = file_fault_text file line name print.Missing; cause = cause.Missing } in
    subst P (some_is is fault told) (ap with_told read)
error_planned_in known words (error.FileFault file line name) (stop.Fault fault) read told =
    let P : Fault → Type 0 = λ f. OrUnread f.cause (IsUnreadAsked words known f.line) (syntax_told words known ≡ Err f) in
    let is : Fault = record { line = file_fault_text file line name print.Unread; cause = cause.Unread } in
    subst P (some_is is fault told)
    (record { number = read.0; file = file; asking = line; name = name; asked = read.1; told = refl })

pub error_planned : (told : Option FileMap) (words : CheckWords) (name : List ℕ) (options : ReadOptions) (error : ReadError) (why : Stop) → name ≡ words.syntax → options ≡ options_of words → IsErrorStop error why → IfSome told (λ known. IsSyntaxOf known name options (Err error)) → FollowsFiles told (syntax_told words) (IsUnreadAsked words) (Err why)
error_planned None words name options error why named given told read = tt
error_planned (Some known) words name options error why named given told read =
    let N : List ℕ → Type 0 = λ n. IsSyntaxOf known n options (Err error) in
    let G : ReadOptions → Type 0 = λ o. IsSyntaxOf known words.syntax o (Err error) in
    let read' : IsSyntaxOf known words.syntax (options_of words) (Err error) = subst G given (subst N named read) in
    error_planned_in known words error why read' told
