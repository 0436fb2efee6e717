-- The painting of a file, step by step.
use Rattle.std.proofs.Common.{◌≡◌, ℕ, ◌+◌, ◌≤◌, List, length, refl, subst, sym, inl, inr}
use Rattle.std.specs.Prelude.{Option, Some, None, IfSome, Result, Ok, Err}
use Rattle.program_words.specs.Given.{CheckWords, PaintWords}
use Rattle.state_cache.specs.PaintedText.{PaintedText}
use Rattle.syn_base.specs.Outside.{FileMap}
use Rattle.syn_reader.specs.declared.syntax.Syntax.{Syntax}
use Rattle.vimsyn_cli.specs.declared.fault.Fault.{Fault as FaultOf}
use Rattle.vimsyn_cli.specs.declared.fault.Stop.{Stop}
use Rattle.vimsyn_cli.specs.declared.fault.Stop.TheVariants as stop
use Rattle.vimsyn_cli.specs.declared.file_fault.NamedFault.TheVariants.{Unread}
use Rattle.vimsyn_cli.specs.FileStop.{IsUnreadNamed}
use Rattle.vimsyn_cli.specs.Painting.{IsPaintFault, IsUnreadPaint, painted_told, painting_told, text_told}
use Rattle.vimsyn_cli.specs.Plans.{FollowsFiles, IfFault, IsExpected, and_then}
use Rattle.vimsyn_cli.specs.Reading.{IsUnreadAsked, syntax_told}
use Rattle.vimsyn_cli.specs.Report.{IsFaultOf, fault_line}
use Rattle.vimsyn_cli.specs.Session.{lines_in}
use Rattle.vimsyn_cli.proofs.PlanLaws.{always, followed, stopped, value}

-- a fault of the text is one of its painting
pub text_fault_told : (A : Type 0) {B : Type 0} (words : PaintWords) (name : List ℕ) (why : Stop) (result : Result B Stop) → name ≡ words.text → IfFault {A = A} (Err why) (IsFaultOf name) → result ≡ Err why → IfFault result (IsPaintFault words)
text_fault_told A words name stop.Memory result named is same = rw same tt
text_fault_told A words name (stop.Fault fault) result named is same =
    let P : List ℕ → Type 0 = λ n. IsFaultOf n fault in
    rw same (inr (inl (subst P named is)))

-- ---- the painting step by step

abbrev further : PaintWords → FileMap → Syntax → Result PaintedText FaultOf
further words files syntax = and_then (text_told words.text files) (painted_told words syntax)

-- the text's file is asked for
abbrev pub IsUnreadText : PaintWords → FileMap → List ℕ → Type 0
IsUnreadText words files line = line ≡ fault_line words.text Unread

syntax_read : (told : Option FileMap) (words : PaintWords) (asked : CheckWords) (read : Result Syntax Stop) → asked ≡ words.syntax → FollowsFiles told (syntax_told asked) (IsUnreadAsked asked) read → FollowsFiles told (syntax_told words.syntax) (IsUnreadAsked words.syntax) read
syntax_read told words asked read same is =
    let P : CheckWords → Type 0 = λ a. FollowsFiles told (syntax_told a) (IsUnreadAsked a) read in
    subst P same is

pub text_read : (told : Option FileMap) (words : PaintWords) (name : List ℕ) (read : Result (List (List ℕ)) Stop) → name ≡ words.text → FollowsFiles told (text_told name) (IsUnreadNamed name) read → FollowsFiles told (text_told words.text) (IsUnreadText words) read
text_read told words name read same is =
    let P : List ℕ → Type 0 = λ n. FollowsFiles told (text_told n) (IsUnreadNamed n) read in
    subst P same is

-- there is no syntax
pub syntax_stopped : (told : Option FileMap) (words : PaintWords) (asked : CheckWords) (why : Stop) (result : Result PaintedText Stop) → asked ≡ words.syntax → FollowsFiles told (syntax_told asked) (IsUnreadAsked asked) (Err why) → result ≡ Err why → FollowsFiles told (painting_told words) (IsUnreadPaint words) result
syntax_stopped told words asked why result same is at =
    stopped told (syntax_told words.syntax) (further words) (IsUnreadAsked words.syntax) (IsUnreadPaint words) why result
    (λ files line u. inl u) (syntax_read told words asked (Err why) same is) at

-- behind a syntax
behind_syntax : (told after : Option FileMap) (words : PaintWords) (asked : CheckWords) (syntax : Syntax) (result : Result PaintedText Stop) → after ≡ told → asked ≡ words.syntax → FollowsFiles told (syntax_told asked) (IsUnreadAsked asked) (Ok syntax) → FollowsFiles after (λ files. further words files syntax) (IsUnreadText words) result → FollowsFiles told (painting_told words) (IsUnreadPaint words) result
behind_syntax told after words asked syntax result kept same is then =
    followed told after (syntax_told words.syntax) (further words) (IsUnreadAsked words.syntax) (IsUnreadText words) (IsUnreadPaint words) syntax result
    kept (λ files line ok u. inr (record { syntax = syntax; accepted = ok }, u)) (syntax_read told words asked (Ok syntax) same is) then

-- there is no text
pub text_stopped : (told after : Option FileMap) (words : PaintWords) (asked : CheckWords) (syntax : Syntax) (name : List ℕ) (why : Stop) (result : Result PaintedText Stop) → after ≡ told → asked ≡ words.syntax → FollowsFiles told (syntax_told asked) (IsUnreadAsked asked) (Ok syntax) → name ≡ words.text → FollowsFiles after (text_told name) (IsUnreadNamed name) (Err why) → result ≡ Err why → FollowsFiles told (painting_told words) (IsUnreadPaint words) result
text_stopped told after words asked syntax name why result kept same is named read at =
    behind_syntax told after words asked syntax result kept same is
    (stopped after (text_told words.text) (λ files. painted_told words syntax) (IsUnreadText words) (IsUnreadText words) why result
    (λ files line u. u) (text_read after words name (Err why) named read) at)

-- both are there
pub both_read : (told after : Option FileMap) (words : PaintWords) (asked : CheckWords) (syntax : Syntax) (name : List ℕ) (text : List (List ℕ)) (result : Result PaintedText Stop) → after ≡ told → asked ≡ words.syntax → FollowsFiles told (syntax_told asked) (IsUnreadAsked asked) (Ok syntax) → name ≡ words.text → FollowsFiles after (text_told name) (IsUnreadNamed name) (Ok text) → IsExpected (painted_told words syntax text) (λ line. ⊥) result → FollowsFiles told (painting_told words) (IsUnreadPaint words) result
both_read told after words asked syntax name text result kept same is named read expected =
    behind_syntax told after words asked syntax result kept same is
    (followed after after (text_told words.text) (λ files. painted_told words syntax) (IsUnreadText words) (λ files line. ⊥) (IsUnreadText words) text result
    refl (λ files line ok u. absurd u) (text_read after words name (Ok text) named read)
    (always after (painted_told words syntax text) (λ line. ⊥) result expected))

-- no more lines were painted than the text has
pub text_counted : (told after : Option FileMap) (words : PaintWords) (name : List ℕ) (text : List (List ℕ)) (before now : ℕ) → after ≡ told → name ≡ words.text → FollowsFiles after (text_told name) (IsUnreadNamed name) (Ok text) → now ≤ before + length text → IfSome told (λ known. now ≤ before + lines_in (text_told words.text known))
text_counted None after words name text before now kept named read few = tt
text_counted (Some known) after words name text before now kept named read few =
    let P : Option FileMap → List ℕ → Type 0 = λ o n. FollowsFiles o (text_told n) (IsUnreadNamed n) (Ok text) in
    let told : text_told words.text known ≡ Ok text = subst (λ (o : Option FileMap). P o words.text) kept (subst (P after) named read) in
    subst (λ (r : Result (List (List ℕ)) FaultOf). now ≤ before + lines_in r) (sym told) few

-- ---- what is printed of a painting

abbrev printed_of : PaintWords → (PaintedText → List ℕ) → FileMap → Result (List ℕ) FaultOf
printed_of words print files = and_then (painting_told words files) (λ painted. Ok (print painted))

painting_of : (told : Option FileMap) (words asked : PaintWords) (painted : Result PaintedText Stop) → asked ≡ words → FollowsFiles told (painting_told asked) (IsUnreadPaint asked) painted → FollowsFiles told (painting_told words) (IsUnreadPaint words) painted
painting_of told words asked painted same is =
    let P : PaintWords → Type 0 = λ a. FollowsFiles told (painting_told a) (IsUnreadPaint a) painted in
    subst P same is

pub print_stopped : (told : Option FileMap) (words asked : PaintWords) (print : PaintedText → List ℕ) (why : Stop) (result : Result (List ℕ) Stop) → asked ≡ words → FollowsFiles told (painting_told asked) (IsUnreadPaint asked) (Err why) → result ≡ Err why → FollowsFiles told (printed_of words print) (IsUnreadPaint words) result
print_stopped told words asked print why result same is at =
    stopped told (painting_told words) (λ files painted. Ok (print painted)) (IsUnreadPaint words) (IsUnreadPaint words) why result
    (λ files line u. u) (painting_of told words asked (Err why) same is) at

pub printed : (told : Option FileMap) (words asked : PaintWords) (print : PaintedText → List ℕ) (painted : PaintedText) (bytes : List ℕ) → asked ≡ words → FollowsFiles told (painting_told asked) (IsUnreadPaint asked) (Ok painted) → bytes ≡ print painted → FollowsFiles told (printed_of words print) (IsUnreadPaint words) (Ok bytes)
printed told words asked print painted bytes same is at =
    value told (painting_told words) print (IsUnreadPaint words) painted bytes (painting_of told words asked (Ok painted) same is) at

pub print_counted : (told : Option FileMap) (words asked : PaintWords) (before now : ℕ) → asked ≡ words → IfSome told (λ known. now ≤ before + lines_in (text_told asked.text known)) → IfSome told (λ known. now ≤ before + lines_in (text_told words.text known))
print_counted told words asked before now same is =
    let P : PaintWords → Type 0 = λ a. IfSome told (λ known. now ≤ before + lines_in (text_told a.text known)) in
    subst P same is
