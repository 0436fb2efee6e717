-- The syntax of files: the commands of the first file are carried out one after the other, and those of a file that a command
-- asks for in that command's place. The first command that is refused, or that asks for a file that can't be had, ends it.
use Rattle.std.specs.Prelude.{ℕ, zero, suc, nat_eq, nat_lt, false, List, [], ◌∷◌, ◌++◌, length, chars, encode_utf8_all, Option, Some, None, if◌then◌else◌, Result, Ok, Err}
use Rattle.syn_base.specs.declared.outside.Fetched.{Fetched}
use Rattle.syn_base.specs.declared.outside.Fetched.TheVariants as fetched
use Rattle.syn_base.specs.Outside.{FileMap, file_named}
use Rattle.hi_links.specs.UsualGroups.{GroupsAndLinks, groups_and_links, with_all_usual, usual_groups}
use Rattle.syntax_set.specs.ClusterTable.{no_clusters}
use Rattle.syn_words.specs.declared.cause.Cause.{Cause}
use Rattle.syn_words.specs.declared.cause.Cause.TheVariants.{TooLongFile, TooDeepIncludes}
use Rattle.syn_words.specs.declared.what.What.{What}
use Rattle.syn_words.specs.declared.what.What.TheVariants as what
use Rattle.syn_words.specs.declared.what.Command.{Command}
use Rattle.syn_words.specs.declared.what.Commands.{Commands}
use Rattle.syn_words.specs.declared.what.WordFault.{WordFault}
use Rattle.syn_words.specs.FileCommands.{commands_of}
use Rattle.syn_reader.specs.declared.reading.Reading.{Reading}
use Rattle.syn_reader.specs.declared.includes.Progress.{Progress}
use Rattle.syn_reader.specs.declared.syntax.ReadOptions.{ReadOptions}
use Rattle.syn_reader.specs.declared.syntax.Syntax.{Syntax}
use Rattle.syn_reader.specs.declared.syntax.ReadError.{ReadError}
use Rattle.syn_reader.specs.declared.syntax.ReadError.TheVariants as error
use Rattle.syn_reader.specs.Answers.{◌>>=◌, each}
use Rattle.syn_reader.specs.UsualSets.{usual_sets}
use Rattle.syn_reader.specs.Includes.{progress, with_reading, counted, cluster_named, include_begun, include_ended}
use Rattle.syn_reader.specs.Commands.{effect}

-- What the outside answers to each fetch: its number, the first file's being 0, and the name in UTF-8 that is asked for.
abbrev pub Fetching : Type 0
Fetching = ℕ → List ℕ → Fetched

abbrev pub Answer : Type 0
Answer = Result Progress ReadError

-- How a file is read that a command asks for: the asking file, its line, and the name.
abbrev pub Opening : Type 0
Opening = List ℕ → ℕ → List ℕ → Progress → Answer

abbrev pub in_line : {A : Type 0} → List ℕ → ℕ → Result A Cause → Result A ReadError
in_line file line (Ok x) = Ok x
in_line file line (Err cause) = Err (error.Refused file line cause)

-- names of files that a syntax file asks for stand in a folder
abbrev pub path_of : ReadOptions → List ℕ → List ℕ
path_of options name = encode_utf8_all (options.folder ++ 47 ∷ name)

abbrev pub runtime_command : Opening → List ℕ → ℕ → Progress → List ℕ → Answer
runtime_command ask file line p path = do
  more ← in_line file line (counted p)
  ask file line path more

-- the commands that ask for no file
abbrev pub effect_done : ReadOptions → List ℕ → ℕ → Progress → What → Answer
effect_done options file line p w = in_line file line (effect options.assume_fromstart p.reading w) >>= λ reading. Ok (with_reading p reading)

abbrev pub end_done : List ℕ → ℕ → ℕ → ℕ → Option (List ℕ) → Progress → Answer
end_done file line number around cluster p = in_line file line (include_ended p.reading number around cluster) >>= λ reading. Ok (with_reading p reading)

-- The cluster is named first. Nested includes have numbers of their own. Case stays as the file leaves it.
abbrev pub include_command : Opening → List ℕ → ℕ → Progress → Option (List ℕ) → List ℕ → Answer
include_command ask file line p cluster path = do
  named ← in_line file line (cluster_named p cluster)
  begun ← in_line file line (include_begun named)
  read ← ask file line path begun
  end_done file line begun.reading.include p.reading.include cluster read

abbrev pub command_done : Opening → ReadOptions → List ℕ → ℕ → Progress → What → Answer
command_done ask options file line p (what.Runtime name) = runtime_command ask file line p (path_of options name)
command_done ask options file line p (what.Include cluster name) = include_command ask file line p cluster (path_of options name)
command_done ask options file line p w = effect_done options file line p w

abbrev pub with_command : Opening → ReadOptions → List ℕ → Progress → Command → Answer
with_command ask options file p command = command_done ask options file command.line p command.what

-- a command that is refused as words is met behind those before it
abbrev pub unless_fault : List ℕ → Option WordFault → Progress → Answer
unless_fault file None p = Ok p
unless_fault file (Some fault) p = Err (error.Refused file fault.line fault.cause)

abbrev pub with_commands : Opening → ReadOptions → List ℕ → Progress → Commands → Answer
with_commands ask options file p commands = do
  read ← each (with_command ask options file) p commands.list
  unless_fault file commands.fault read

-- what comes of a fetch
abbrev pub by_fetched : Opening → ReadOptions → List ℕ → ℕ → List ℕ → Progress → Fetched → Answer
by_fetched ask options file line name p (fetched.Whole bytes) = with_commands ask options name p (commands_of bytes)
by_fetched ask options file line name p fetched.Missing = Err (error.Missing file line name)
by_fetched ask options file line name p fetched.TooLong = Err (error.Refused file line (TooLongFile name))
by_fetched ask options file line name p fetched.Failed = Err (error.FileFault file line name)
by_fetched ask options file line name p fetched.Memory = Err error.Memory

abbrev pub fetched_by : Opening → Fetching → ReadOptions → List ℕ → ℕ → List ℕ → Progress → Answer
fetched_by inner fetch options file line name p = by_fetched inner options file line (chars name) p (fetch p.includes name)

abbrev pub too_deep : Opening
too_deep file line name p = Err (error.Refused file line TooDeepIncludes)

-- A file that is asked for where so many files may still be opened, each in the one before.
abbrev pub asked_within : ℕ → Fetching → ReadOptions → Opening
asked_within zero fetch options = too_deep
asked_within (suc room) fetch options = fetched_by (asked_within room fetch options) fetch options

-- the groups that exist from the start
abbrev pub usual : GroupsAndLinks
usual = with_all_usual (groups_and_links [] []) usual_groups

abbrev pub nothing_read : Reading
nothing_read = record {
  names = record { groups = usual.names; clusters = no_clusters };
  items = [];
  patterns = [];
  keywords = [];
  links = usual.links;
  sets = usual_sets;
  ignore = false;
  include = 0;
}

abbrev pub syntax_from : Reading → Syntax
syntax_from reading = record {
  items = reading.items;
  clusters = reading.names.clusters;
  groups = reading.names.groups;
  programs = reading.patterns;
  keywords = reading.keywords;
  links = reading.links;
  sets = reading.sets;
}

abbrev pub syntax_when : Answer → Result Syntax ReadError
syntax_when (Ok p) = Ok (syntax_from p.reading)
syntax_when (Err e) = Err e

-- The first file is asked for by its own name. At most 20 files are nested in it, each in the one before.
abbrev pub first_read : Fetching → List ℕ → ReadOptions → Answer
first_read fetch name options = asked_within 21 fetch options (chars name) 0 name (progress nothing_read 0)

abbrev pub syntax_by : Fetching → List ℕ → ReadOptions → Result Syntax ReadError
syntax_by fetch name options = syntax_when (first_read fetch name options)

-- the answers of files that are known; a syntax file has at most 8 MiB
abbrev pub by_bytes : Option (List ℕ) → Fetched
by_bytes None = fetched.Missing
by_bytes (Some bytes) = if nat_lt 8388608 (length bytes) then fetched.TooLong else fetched.Whole bytes

abbrev pub told_by : FileMap → Fetching
told_by files number name = by_bytes (file_named files name)

-- the same, but for one fetch that fails
abbrev pub failing_at : ℕ → Fetching → Fetching
failing_at number fetch n name = if nat_eq n number then fetched.Failed else fetch n name

-- the syntax of files in a map, or why there is none
abbrev pub syntax_of : FileMap → List ℕ → ReadOptions → Result Syntax ReadError
syntax_of files name options = syntax_by (told_by files) name options
