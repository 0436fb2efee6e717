-- Includes (Vim's help, :syn-include): the items of each have a number of their own, and in the end the groups of those that
-- were written without `contained` join the include's cluster.
use Rattle.std.specs.Prelude.{ℕ, ◌+◌, nat_eq, nat_lt, not, ◌&&◌, Bool, false, List, map, filter, Option, Some, None, if◌then◌else◌, Result, Ok, Err}
use Rattle.syntax_set.specs.declared.added_item.AddedItem.{AddedItem}
use Rattle.syntax_set.specs.declared.clusters.Change.TheVariants.{Add}
use Rattle.syntax_set.specs.declared.item.Entry.{Entry}
use Rattle.syntax_set.specs.declared.item.Entry.TheVariants.{Group}
use Rattle.syntax_set.specs.ClusterLists.{with_change}
use Rattle.syn_words.specs.declared.cause.Cause.{Cause}
use Rattle.syn_words.specs.declared.cause.Cause.TheVariants.{TooManyIncludes}
use Rattle.syn_reader.specs.declared.includes.Progress.{Progress}
use Rattle.syn_reader.specs.declared.names.Names.{Names}
use Rattle.syn_reader.specs.declared.reading.Reading.{Reading}
use Rattle.syn_reader.specs.Answers.{◌>>=◌}
use Rattle.syn_reader.specs.Names.{cluster_made, with_clusters}
use Rattle.syn_reader.specs.Items.{with_names}

-- what has been read, where there were so many includes
abbrev pub progress : Reading → ℕ → Progress
progress reading includes = record { reading = reading; includes = includes }

abbrev pub with_reading : Progress → Reading → Progress
with_reading p reading = progress reading p.includes

-- one include more, or one file by `runtime`: there are at most 999
abbrev pub counted : Progress → Result Progress Cause
counted p = if nat_lt p.includes 999 then Ok (progress p.reading (p.includes + 1)) else Err TooManyIncludes

abbrev pub with_include : Reading → ℕ → Reading
with_include reading number = record reading { include = number }

-- the include's cluster is named first, as its name stands before that of the file
abbrev pub cluster_begun : Names → Option (List ℕ) → Result Names Cause
cluster_begun known None = Ok known
cluster_begun known (Some name) = cluster_made known name >>= λ made. Ok made.1

abbrev pub cluster_named : Progress → Option (List ℕ) → Result Progress Cause
cluster_named p cluster = cluster_begun p.reading.names cluster >>= λ known. Ok (with_reading p (with_names p.reading known))

-- an include begins: its number is how many there were, itself among them
abbrev pub include_begun : Progress → Result Progress Cause
include_begun p = counted p >>= λ more. Ok (with_reading more (with_include more.reading more.includes))

-- a live item of this include that was written without `contained`
abbrev pub is_open_in : ℕ → AddedItem → Bool
is_open_in number added = added.live && not added.item.contained && nat_eq added.item.include number

-- the same of the item of a number
abbrev pub is_open_at : ℕ → Option AddedItem → Bool
is_open_at number None = false
is_open_at number (Some added) = is_open_in number added

abbrev pub entry_of : AddedItem → Entry
entry_of added = Group added.item.group

abbrev pub open_groups : ℕ → List AddedItem → List Entry
open_groups number items = map entry_of (filter (is_open_in number) items)

-- the cluster is made anew if it was cleared away
abbrev pub cluster_joined : Names → List AddedItem → ℕ → List ℕ → Result Names Cause
cluster_joined known items number name = do
  made ← cluster_made known name
  Ok (with_clusters made.1 (with_change made.1.clusters made.0 Add (open_groups number items)))

abbrev pub joined : Reading → ℕ → Option (List ℕ) → Result Reading Cause
joined reading number None = Ok reading
joined reading number (Some name) = cluster_joined reading.names reading.items number name >>= λ known. Ok (with_names reading known)

-- an include ends, and the one around it goes on
abbrev pub include_ended : Reading → ℕ → ℕ → Option (List ℕ) → Result Reading Cause
include_ended reading number around cluster = do
  together ← joined reading number cluster
  Ok (with_include together around)
