-- What reading answers, beside the syntax of files: which counts of the files rose, and that the answer is that of the rules
-- where the files are told.
use Rattle.std.specs.Prelude.{◌≡◌, ◌≤◌, ℕ, suc, Bool, true, false, List, Option, None, Some, IfSome, OnOk, Result, Ok, Err}
use Rattle.syn_base.specs.Causes.{Counted, FileCounts}
use Rattle.syn_base.specs.Outside.{FileMap}
use Rattle.syn_words.specs.declared.cause.Cause.TheVariants as cause
use Rattle.syn_words.specs.declared.what.WordFault.{WordFault}
use Rattle.syn_reader.specs.declared.refusal.Refusal.{Refusal}
use Rattle.syn_reader.specs.declared.refusal.Refusal.TheVariants.{Fault, Memory}
use Rattle.syn_reader.specs.declared.files.How.{How}
use Rattle.syn_reader.specs.declared.includes.Progress.{Progress}
use Rattle.syn_reader.specs.declared.syntax.ReadOptions.{ReadOptions}
use Rattle.syn_reader.specs.declared.syntax.Syntax.{Syntax}
use Rattle.syn_reader.specs.declared.syntax.ReadError.{ReadError}
use Rattle.syn_reader.specs.declared.syntax.ReadError.TheVariants as error
use Rattle.syn_reader.specs.SoundReading.{IsSoundReading}
use Rattle.syn_reader.specs.SyntaxOf.{Answer, Fetching, Opening, asked_within, told_by, failing_at, syntax_by, syntax_of}

-- which error is the cause of which count

abbrev pub is_file_fault : ReadError → Bool
is_file_fault (error.FileFault file line name) = true
is_file_fault other = false

abbrev pub is_missing : ReadError → Bool
is_missing (error.Missing file line name) = true
is_missing other = false

abbrev pub is_too_long : ReadError → Bool
is_too_long (error.Refused file line (cause.TooLongFile name)) = true
is_too_long other = false

-- whether an error was answered that passes a test
abbrev pub is_error : {A : Type 0} → (ReadError → Bool) → Result A ReadError → Bool
is_error test (Ok x) = false
is_error test (Err e) = test e

-- each count rose where its cause is answered, and else it is as it was
pub record Counts {A : Type 0} (result : Result A ReadError) (before now : FileCounts) : Type 0 where
  pub faults : Counted (is_error is_file_fault result) before.faults now.faults
  pub misses : Counted (is_error is_missing result) before.misses now.misses
  pub longs : Counted (is_error is_too_long result) before.longs now.longs

-- the answers up to the fetch of this number are those of the files
abbrev pub Agrees : FileMap → ℕ → Fetching → Type 0
Agrees files last fetch = (number : ℕ) (name : List ℕ) → number ≤ last → fetch number name ≡ told_by files number name

-- A run that makes fetches from this number on is what the rules give of the files. Where a fetch failed, it is what they
-- give where that one fails. Want of memory is free.
abbrev pub Follows : {A : Type 0} → FileMap → ℕ → (Fetching → Answer) → Progress → Result A ReadError → Type 0
Follows files first rules left (Ok x) =
    (first ≤ suc left.includes) × ((fetch : Fetching) → Agrees files left.includes fetch → rules fetch ≡ Ok left)
Follows files first rules left (Err (error.Refused file line c)) = rules (told_by files) ≡ Err (error.Refused file line c)
Follows files first rules left (Err (error.Missing file line name)) = rules (told_by files) ≡ Err (error.Missing file line name)
Follows files first rules left (Err (error.FileFault file line name)) =
    (number : ℕ) × (first ≤ number) × (rules (failing_at number (told_by files)) ≡ Err (error.FileFault file line name))
Follows files first rules left (Err error.Memory) = Unit {0}

-- the same where the files are told
abbrev pub Reads : {A : Type 0} → Option FileMap → ℕ → (Fetching → Answer) → Progress → Result A ReadError → Type 0
Reads told first rules left result = IfSome told (λ files. Follows files first rules left result)

-- an error is this one, or that memory ran out
abbrev pub IsOrMemory : ReadError → ReadError → Type 0
IsOrMemory error.Memory expected = Unit {0}
IsOrMemory (error.Refused file line c) expected = error.Refused file line c ≡ expected
IsOrMemory (error.Missing file line name) expected = error.Missing file line name ≡ expected
IsOrMemory (error.FileFault file line name) expected = error.FileFault file line name ≡ expected

-- how often a file couldn't be read, was missing or was too long
abbrev pub file_counts : ℕ → ℕ → ℕ → FileCounts
file_counts faults misses longs = record { faults = faults; misses = misses; longs = longs }

-- A run that makes fetches from this number on went by its files, by what tells of them before and after: they tell what they
-- told, each count rose where its cause is answered, the answer is that of the rules, and what was read is sound.
pub record GoesBy
    {F : Type 0} (told : F → Option FileMap) (faults misses longs : F → ℕ) (before after : F) (first : ℕ)
    (rules : Fetching → Answer) (left : Progress) (result : Result (Unit {0}) ReadError) : Type 0 where
  pub kept : told after ≡ told before
  pub counts :
      Counts result (file_counts (faults before) (misses before) (longs before)) (file_counts (faults after) (misses after) (longs after))
  pub answer : Reads (told before) first rules left result
  pub sound : OnOk result (IsSoundReading left.reading)

-- how a file is read that a command asks for
abbrev pub opening : How → Fetching → Opening
opening how fetch = asked_within how.room fetch how.options.now

-- What reading the first file answers, where the files are told. A file that couldn't be read is one that the rules ask for:
-- were that fetch to fail, they would answer just this.
abbrev pub IsSyntaxOf : FileMap → List ℕ → ReadOptions → Result Syntax ReadError → Type 0
IsSyntaxOf files name options (Ok syntax) = syntax_of files name options ≡ Ok syntax
IsSyntaxOf files name options (Err (error.Refused file line c)) = syntax_of files name options ≡ Err (error.Refused file line c)
IsSyntaxOf files name options (Err (error.Missing file line asked)) = syntax_of files name options ≡ Err (error.Missing file line asked)
IsSyntaxOf files name options (Err (error.FileFault file line asked)) =
    (number : ℕ) × (syntax_by (failing_at number (told_by files)) name options ≡ Err (error.FileFault file line asked))
IsSyntaxOf files name options (Err error.Memory) = Unit {0}

-- an error whose cause is no count of the files
abbrev pub HasOtherCause : ReadError → Type 0
HasOtherCause e = (is_file_fault e ≡ false) × (is_missing e ≡ false) × (is_too_long e ≡ false)

abbrev pub HasOtherCauses : {A : Type 0} → Result A ReadError → Type 0
HasOtherCauses (Ok x) = Unit {0}
HasOtherCauses (Err e) = HasOtherCause e

-- an answer that needs no file is what the rules give
abbrev pub Does : {A S : Type 0} → Result A ReadError → S → Result S ReadError → Type 0
Does (Ok x) left rules = rules ≡ Ok left
Does (Err (error.Refused file line c)) left rules = rules ≡ Err (error.Refused file line c)
Does (Err (error.Missing file line name)) left rules = rules ≡ Err (error.Missing file line name)
Does (Err (error.FileFault file line name)) left rules = rules ≡ Err (error.FileFault file line name)
Does (Err error.Memory) left rules = Unit {0}

-- what carrying out a command answered, told with its file and line
abbrev pub IsInLine : {A B : Type 0} → List ℕ → ℕ → Result A Refusal → Result B ReadError → Type 0
IsInLine file line (Ok x) (Ok y) = Unit {0}
IsInLine file line (Ok x) (Err e) = ⊥
IsInLine file line (Err r) (Ok y) = ⊥
IsInLine file line (Err (Fault c)) (Err e) = IsOrMemory e (error.Refused file line c) × HasOtherCause e
IsInLine file line (Err Memory) (Err e) = e ≡ error.Memory

abbrev pub IsFaultOf : {A : Type 0} → List ℕ → Option WordFault → Result A ReadError → Type 0
IsFaultOf file None (Ok x) = Unit {0}
IsFaultOf file None (Err e) = ⊥
IsFaultOf file (Some fault) (Ok x) = ⊥
IsFaultOf file (Some fault) (Err e) = IsOrMemory e (error.Refused file fault.line fault.cause) × HasOtherCause e
