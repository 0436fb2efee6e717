-- The syntax of a run over all files.
use Rattle.std.proofs.Common.{◌≡◌, ℕ, List, ap, sym, subst, ◌∙◌, Some, None, Ok, Err}
use Rattle.std.specs.Prelude.{Option, Result, IfSome, chars}
use Rattle.syn_base.specs.Causes.{FileCounts}
use Rattle.syn_base.specs.Outside.{FileMap}
use Rattle.syn_reader.specs.declared.includes.Progress.{Progress}
use Rattle.syn_reader.specs.declared.reading.Reading.{Reading}
use Rattle.syn_reader.specs.declared.syntax.ReadOptions.{ReadOptions}
use Rattle.syn_reader.specs.declared.syntax.ReadError.{ReadError}
use Rattle.syn_reader.specs.declared.syntax.ReadError.TheVariants as error
use Rattle.syn_reader.specs.declared.syntax.Syntax.{Syntax}
use Rattle.syn_reader.specs.Includes.{progress}
use Rattle.syn_reader.specs.SyntaxOf.{told_by, asked_within, first_read, nothing_read, syntax_when, syntax_from}
use Rattle.syn_reader.specs.Follows.{Counts, Reads, IsSyntaxOf}
use Rattle.syn_reader.proofs.Runs.{told_agrees}

-- the counts of an error, whatever else was asked for
pub error_counts : (e : ReadError) (before now : FileCounts) → Counts {A = Unit {0}} (Err e) before now → Counts {A = Syntax} (Err e) before now
error_counts e before now h = record { faults = h.faults; misses = h.misses; longs = h.longs }

-- the first file is read by its name, and nothing was read before
first_file : (told : Option FileMap) (name own : List ℕ) (options : ReadOptions) (reading : Reading) (left : Progress) (result : Result (Unit {0}) ReadError) → own ≡ chars name → reading ≡ nothing_read
    → Reads told 0 (λ fetch. asked_within 21 fetch options own 0 name (progress reading 0)) left result
    → Reads told 0 (λ fetch. first_read fetch name options) left result
first_file told name own options reading left result e k h =
    subst (λ r. Reads told 0 (λ fetch. asked_within 21 fetch options (chars name) 0 name (progress r 0)) left result) k
    (subst (λ o. Reads told 0 (λ fetch. asked_within 21 fetch options o 0 name (progress reading 0)) left result) e h)

fails : (told : Option FileMap) (name : List ℕ) (options : ReadOptions) (left : Progress) (e : ReadError) → Reads {A = Unit {0}} told 0 (λ fetch. first_read fetch name options) left (Err e)
    → IfSome told (λ files. IsSyntaxOf files name options (Err e))
fails None name options left e h = tt
fails (Some files) name options left (error.Refused file line c) h = ap syntax_when h
fails (Some files) name options left (error.Missing file line asked) h = ap syntax_when h
fails (Some files) name options left (error.FileFault file line asked) h = (h.0, ap syntax_when h.2)
fails (Some files) name options left error.Memory h = tt

goes_well : (told : Option FileMap) (name : List ℕ) (options : ReadOptions) (left : Progress) (x : Unit {0}) (syntax : Syntax) → syntax ≡ syntax_from left.reading → Reads told 0 (λ fetch. first_read fetch name options) left (Ok x)
    → IfSome told (λ files. IsSyntaxOf files name options (Ok syntax))
goes_well None name options left x syntax e h = tt
goes_well (Some files) name options left x syntax e h = ap syntax_when (h.1 (told_by files) (told_agrees files left.includes)) ∙ ap Ok (sym e)

-- an error of the run is that of the syntax
pub run_fails : (told : Option FileMap) (name own : List ℕ) (options : ReadOptions) (reading : Reading) (left : Progress) (e : ReadError) → own ≡ chars name → reading ≡ nothing_read
    → Reads {A = Unit {0}} told 0 (λ fetch. asked_within 21 fetch options own 0 name (progress reading 0)) left (Err e)
    → IfSome told (λ files. IsSyntaxOf files name options (Err e))
run_fails told name own options reading left e same k h = fails told name options left e (first_file told name own options reading left (Err e) same k h)

-- what a run leaves is the syntax
pub run_goes_well : (told : Option FileMap) (name own : List ℕ) (options : ReadOptions) (reading : Reading) (left : Progress) (x : Unit {0}) (syntax : Syntax) → own ≡ chars name → reading ≡ nothing_read
    → syntax ≡ syntax_from left.reading → Reads told 0 (λ fetch. asked_within 21 fetch options own 0 name (progress reading 0)) left (Ok x)
    → IfSome told (λ files. IsSyntaxOf files name options (Ok syntax))
run_goes_well told name own options reading left x syntax same k e h = goes_well told name options left x syntax e (first_file told name own options reading left (Ok x) same k h)
