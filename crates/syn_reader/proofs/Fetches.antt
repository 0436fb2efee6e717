-- Runs that begin with a command's own work or with a fetch.
use Rattle.std.proofs.Common.{◌≡◌, ◌≤◌, ◌<◌, ◌-◌, ℕ, zero, suc, List, length, refl, ap, sym, subst, ◌∙◌, arith, Some, None, Ok, Err, true, false}
use Rattle.std.proofs.lemmas.Bool.Decides.{nat_tests}
use Rattle.std.specs.Prelude.{Option, Result, nat_eq, nat_lt, chars, if◌then◌else◌}
use Rattle.syn_base.specs.Causes.{Counted, FileCounts}
use Rattle.syn_base.specs.Outside.{FileMap, Fetches}
use Rattle.syn_base.specs.declared.outside.Fetched.{Fetched}
use Rattle.syn_base.specs.declared.outside.Fetched.TheVariants as fetched
use Rattle.syn_words.specs.declared.what.Commands.{Commands}
use Rattle.syn_words.specs.FileCommands.{commands_of}
use Rattle.syn_reader.specs.declared.includes.Progress.{Progress}
use Rattle.syn_reader.specs.declared.syntax.ReadOptions.{ReadOptions}
use Rattle.syn_reader.specs.declared.syntax.ReadError.{ReadError}
use Rattle.syn_reader.specs.declared.syntax.ReadError.TheVariants as error
use Rattle.syn_reader.specs.Answers.{◌>>=◌}
use Rattle.syn_reader.specs.SyntaxOf.{Answer, Fetching, Opening, told_by, by_bytes, failing_at, by_fetched, fetched_by, with_commands, asked_within}
use Rattle.syn_reader.specs.Follows.{Follows, Reads, Counts, Does, HasOtherCause, HasOtherCauses, IsOrMemory}
use Rattle.syn_reader.proofs.Runs.{failing_agrees}

-- an error of a command's own work
pub does_follows : (files : FileMap) (first : ℕ) (rules : Answer) (left other : Progress) (e : ReadError) → Does {A = Unit {0}} (Err e) left rules → HasOtherCause e
    → Follows {A = Unit {0}} files first (λ _. rules) other (Err e)
does_follows files first rules left other (error.Refused file line c) h k = h
does_follows files first rules left other (error.Missing file line name) h k = h
does_follows files first rules left other (error.FileFault file line name) h k = let e : true ≡ false = k.0 in cc
does_follows files first rules left other error.Memory h k = tt

pub does_reads : (told : Option FileMap) (first : ℕ) (rules : Answer) (left other : Progress) (e : ReadError) → Does {A = Unit {0}} (Err e) left rules → HasOtherCause e
    → Reads {A = Unit {0}} told first (λ _. rules) other (Err e)
does_reads None first rules left other e h k = tt
does_reads (Some files) first rules left other e h k = does_follows files first rules left other e h k

-- a run behind a command's own work
after_follows : (files : FileMap) (first : ℕ) (rules : Answer) (two : Fetching → Progress → Answer) (mid left : Progress) (result : Result (Unit {0}) ReadError)
    → rules ≡ Ok mid → Follows files first (λ fetch. two fetch mid) left result → Follows files first (λ fetch. rules >>= two fetch) left result
after_follows files first rules two mid left result e h = subst (λ r. Follows files first (λ fetch. r >>= two fetch) left result) (sym e) h

pub after_reads : (told : Option FileMap) (first : ℕ) (rules : Answer) (two : Fetching → Progress → Answer) (mid left : Progress) (result : Result (Unit {0}) ReadError)
    → rules ≡ Ok mid → Reads told first (λ fetch. two fetch mid) left result → Reads told first (λ fetch. rules >>= two fetch) left result
after_reads told first rules two mid left result e h = subst (λ r. Reads told first (λ fetch. r >>= two fetch) left result) (sym e) h

-- no count rose
pub no_counts : (e : ReadError) (before : FileCounts) → HasOtherCause e → Counts {A = Unit {0}} (Err e) before before
no_counts e before h = record {
  faults = subst (λ b. Counted b before.faults before.faults) (sym h.0) refl;
  misses = subst (λ b. Counted b before.misses before.misses) (sym h.1) refl;
  longs = subst (λ b. Counted b before.longs before.longs) (sym h.2) refl;
}

pub does_counts : (result : Result (Unit {0}) ReadError) (before : FileCounts) → HasOtherCauses result → Counts result before before
does_counts (Ok x) before h = record { faults = refl; misses = refl; longs = refl }
does_counts (Err e) before h = no_counts e before h

-- ---- fetches

abbrev Asked : Type 0
Asked = Fetching → Fetched → Answer

-- a file that is there
whole_follows : (files : FileMap) (number : ℕ) (name : List ℕ) (rules : Asked) (found : Fetched) (left : Progress) (result : Result (Unit {0}) ReadError)
    → told_by files number name ≡ found → Follows files (suc number) (λ fetch. rules fetch found) left result
    → Follows files number (λ fetch. rules fetch (fetch number name)) left result
whole_follows files number name rules found left (Ok x) e h = (
  (let a = h.0 in omega arith),
  λ fetch agrees. ap (rules fetch) (agrees number name (let a = h.0 in omega arith) ∙ e) ∙ h.1 fetch agrees,
)
whole_follows files number name rules found left (Err (error.Refused file line c)) e h = ap (rules (told_by files)) e ∙ h
whole_follows files number name rules found left (Err (error.Missing file line n)) e h = ap (rules (told_by files)) e ∙ h
whole_follows files number name rules found left (Err (error.FileFault file line n)) e h = (
  h.0,
  (let a = h.1 in omega arith),
  ap (rules (failing_at h.0 (told_by files))) (failing_agrees files number h.0 h.1 number name (omega arith) ∙ e) ∙ h.2,
)
whole_follows files number name rules found left (Err error.Memory) e h = tt

within : (n limit : ℕ) → n ≤ limit → nat_lt limit n ≡ false
within n limit few = grind (arith, nat_tests)

-- a whole file, by what the fetch answers
whole_is_told : (files : FileMap) (number : ℕ) (name bytes : List ℕ) → Fetches (Some files) name 8388608 (fetched.Whole bytes) → told_by files number name ≡ fetched.Whole bytes
whole_is_told files number name bytes h =
    ap by_bytes h.1 ∙ ap (λ b. if b then fetched.TooLong else fetched.Whole bytes) (within (length bytes) 8388608 h.0)

told_whole : (told : Option FileMap) (inner : Fetching → Opening) (options : ReadOptions) (file : List ℕ) (line : ℕ) (name bytes : List ℕ) (p left : Progress) (result : Result (Unit {0}) ReadError)
    → Fetches told name 8388608 (fetched.Whole bytes)
    → Reads told (suc p.includes) (λ fetch. with_commands (inner fetch) options (chars name) p (commands_of bytes)) left result
    → Reads told p.includes (λ fetch. fetched_by (inner fetch) fetch options file line name p) left result
told_whole None inner options file line name bytes p left result f h = tt
told_whole (Some files) inner options file line name bytes p left result f h =
    whole_follows files p.includes name (λ fetch found. by_fetched (inner fetch) options file line (chars name) p found) (fetched.Whole bytes) left result
    (whole_is_told files p.includes name bytes f) h

-- the same, where the files stay as they are told, and the name and the commands are read
pub whole_reads : (told after : Option FileMap) (inner : Fetching → Opening) (options : ReadOptions) (file : List ℕ) (line : ℕ) (name own bytes : List ℕ) (found : Commands) (p left : Progress) (result : Result (Unit {0}) ReadError)
    → after ≡ told → own ≡ chars name → found ≡ commands_of bytes → Fetches told name 8388608 (fetched.Whole bytes)
    → Reads after (suc p.includes) (λ fetch. with_commands (inner fetch) options own p found) left result
    → Reads told p.includes (λ fetch. fetched_by (inner fetch) fetch options file line name p) left result
whole_reads told after inner options file line name own bytes found p left result kept named same f h =
    told_whole told inner options file line name bytes p left result f
    (subst (λ t. Reads t (suc p.includes) (λ fetch. with_commands (inner fetch) options (chars name) p (commands_of bytes)) left result) kept
    (subst (λ n. Reads after (suc p.includes) (λ fetch. with_commands (inner fetch) options n p (commands_of bytes)) left result) named
    (subst (λ l. Reads after (suc p.includes) (λ fetch. with_commands (inner fetch) options own p l) left result) same h)))

is_itself : (n : ℕ) → nat_eq n n ≡ true
is_itself n = grind (arith, nat_tests)

-- a file that can't be read: were its fetch to fail, the rules would answer just this
pub failed_reads : (told : Option FileMap) (inner : Fetching → Opening) (options : ReadOptions) (file : List ℕ) (line : ℕ)
    (name : List ℕ) (p left : Progress) (e : ReadError) → e ≡ error.FileFault file line (chars name)
    → Reads {A = Unit {0}} told p.includes (λ fetch. fetched_by (inner fetch) fetch options file line name p) left (Err e)
failed_reads None inner options file line name p left e h = tt
failed_reads (Some files) inner options file line name p left e h =
    let fails : failing_at p.includes (told_by files) p.includes name ≡ fetched.Failed =
    ap (λ b. if b then fetched.Failed else told_by files p.includes name) (is_itself p.includes) in
    subst (λ (r : ReadError). Follows {A = Unit {0}} files p.includes (λ fetch. fetched_by (inner fetch) fetch options file line name p) left (Err r)) (sym h) (
      p.includes,
      omega arith,
      ap (by_fetched (inner (failing_at p.includes (told_by files))) options file line (chars name) p) fails,
    )

-- ---- what stands before a fetch

-- one less than a number that isn't zero
one_less : (n : ℕ) → suc n - 1 ≡ n
one_less n = omega arith

-- an error that is this one, or that memory ran out
error_follows : (files : FileMap) (first : ℕ) (left : Progress) (e expected : ReadError) → IsOrMemory e expected → HasOtherCause e
    → Follows {A = Unit {0}} files first (λ _. Err expected) left (Err e)
error_follows files first left (error.Refused file line c) expected h k = ap Err (sym h)
error_follows files first left (error.Missing file line name) expected h k = ap Err (sym h)
error_follows files first left (error.FileFault file line name) expected h k = let e : true ≡ false = k.0 in cc
error_follows files first left error.Memory expected h k = tt

pub error_reads : (told : Option FileMap) (first : ℕ) (left : Progress) (e expected : ReadError) → IsOrMemory e expected → HasOtherCause e
    → Reads {A = Unit {0}} told first (λ _. Err expected) left (Err e)
error_reads None first left e expected h k = tt
error_reads (Some files) first left e expected h k = error_follows files first left e expected h k

-- a file that may still be opened
pub asked_reads : (told : Option FileMap) (room : ℕ) (options : ReadOptions) (file : List ℕ) (line : ℕ)
    (name : List ℕ) (p left : Progress) (result : Result (Unit {0}) ReadError) → 0 < room
    → Reads told p.includes (λ fetch. fetched_by (asked_within (room - 1) fetch options) fetch options file line name p)
    left result
    → Reads told p.includes (λ fetch. asked_within room fetch options file line name p) left result
asked_reads told zero options file line name p left result z h = absurd (omega arith)
asked_reads told (suc room) options file line name p left result z h =
    subst (λ n. Reads told p.includes (λ fetch. fetched_by (asked_within n fetch options) fetch options file line name p)
    left result) (one_less room) h
