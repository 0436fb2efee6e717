-- Lists of groups (Vim's help, :syn-contains). First each pattern of names is read: it stands for groups that were named
-- before the command. Only then the list's new names are made. A list has each group and each cluster once, at its first place.
use Rattle.std.specs.Prelude.{ℕ, Bool, List, [], ◌∷◌, ◌++◌, fold, if◌then◌else◌, Result, Ok}
use Rattle.syn_base.specs.declared.places.GroupId.{GroupId}
pub use Rattle.syntax_set.specs.ClusterLists.{groups_in, clusters_in}
use Rattle.syntax_set.specs.Numbers.{has_number}
use Rattle.syntax_set.specs.declared.item.Entry.{Entry}
use Rattle.syntax_set.specs.declared.item.Entry.TheVariants as entry
use Rattle.syntax_set.specs.declared.item.GroupList.{GroupList}
use Rattle.syn_words.specs.declared.cause.Cause.{Cause}
use Rattle.syn_words.specs.declared.what.Named.{Named}
use Rattle.syn_words.specs.declared.what.Named.TheVariants as named
use Rattle.syn_words.specs.declared.what.NamedList.{NamedList}
use Rattle.syn_reader.specs.declared.read_list.ReadName.{ReadName}
use Rattle.syn_reader.specs.declared.read_list.ReadName.TheVariants.{Group, Cluster, Found}
use Rattle.syn_reader.specs.declared.read_list.ReadList.{ReadList}
use Rattle.syn_reader.specs.declared.names.Names.{Names}
use Rattle.syn_reader.specs.Answers.{◌>>=◌, each}
use Rattle.syn_reader.specs.Names.{Made, group_made, cluster_made}
use Rattle.syn_reader.specs.PatternsOfNames.{matching}

-- the groups that patterns of names have given
abbrev pub found_in : List ReadName → List ℕ
found_in [] = []
found_in (Group name ∷ names) = found_in names
found_in (Cluster name ∷ names) = found_in names
found_in (Found group ∷ names) = group.0 ∷ found_in names

-- with one group more, unless a pattern has given it
abbrev pub with_found : List ReadName → GroupId → List ReadName
with_found names group = if has_number (found_in names) group.0 then names else names ++ Found group ∷ []

abbrev pub with_all_found : List ReadName → List GroupId → List ReadName
with_all_found names groups = fold with_found names groups

abbrev pub with_name_read : List (List ℕ) → List ReadName → Named → Result (List ReadName) Cause
with_name_read groups so_far (named.Group name) = Ok (so_far ++ Group name ∷ [])
with_name_read groups so_far (named.Cluster name) = Ok (so_far ++ Cluster name ∷ [])
with_name_read groups so_far (named.Names text) = matching groups text >>= λ found. Ok (with_all_found so_far found)

-- a list, read by the groups that are named before its command
abbrev pub list_read : List (List ℕ) → NamedList → Result ReadList Cause
list_read groups list = do
  names ← each (with_name_read groups) [] list.names
  Ok (record { special = list.special; names = names })

abbrev pub has_entry : List Entry → Entry → Bool
has_entry entries (entry.Group group) = has_number (groups_in entries) group.0
has_entry entries (entry.Cluster cluster) = has_number (clusters_in entries) cluster

-- with one more, unless it is there
abbrev pub with_entry : List Entry → Entry → List Entry
with_entry entries e = if has_entry entries e then entries else entries ++ e ∷ []

-- entries so far, and the names that are known
abbrev pub Entries : Type 0
Entries = List Entry × Names

-- the entry of a name, which is made if it is new
abbrev pub entry_made : Names → ReadName → Made Entry
entry_made known (Group name) = group_made known name >>= λ made. Ok (entry.Group made.0, made.1)
entry_made known (Cluster name) = cluster_made known name >>= λ made. Ok (entry.Cluster made.0, made.1)
entry_made known (Found group) = Ok (entry.Group group, known)

abbrev pub with_entry_made : Entries → ReadName → Result Entries Cause
with_entry_made so_far name = entry_made so_far.1 name >>= λ made. Ok (with_entry so_far.0 made.0, made.1)

-- a list with its new names made, from left to right
abbrev pub list_made : Names → ReadList → Made GroupList
list_made known list = do
  made ← each with_entry_made ([], known) list.names
  Ok (record { special = list.special; entries = made.0 }, made.1)
