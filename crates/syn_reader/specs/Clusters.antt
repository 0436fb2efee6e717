-- Clusters (Vim's help, :syn-cluster), and what is cleared (:syn-clear).
use Rattle.std.specs.Prelude.{ℕ, false, List, [], ◌∷◌, ◌++◌, map, fold, Option, Some, None, Result, Ok, encode_utf8_all}
use Rattle.syn_base.specs.declared.places.GroupId.{GroupId}
use Rattle.syntax_set.specs.declared.clusters.Change.{Change}
use Rattle.syntax_set.specs.declared.clusters.Change.TheVariants.{Set}
use Rattle.syntax_set.specs.Groups.{group_of}
use Rattle.syntax_set.specs.Allowed.{cleared}
use Rattle.syntax_set.specs.ClusterTable.{no_clusters}
use Rattle.syntax_set.specs.ClusterLists.{cluster_of, with_change}
use Rattle.syn_words.specs.declared.cause.Cause.{Cause}
use Rattle.syn_words.specs.declared.what.Named.{Named}
use Rattle.syn_words.specs.declared.what.Named.TheVariants as named
use Rattle.syn_words.specs.declared.what.NamedList.{NamedList}
use Rattle.syn_reader.specs.declared.contents.ReadChange.{ReadChange}
use Rattle.syn_reader.specs.declared.names.Names.{Names}
use Rattle.syn_reader.specs.declared.reading.Reading.{Reading}
use Rattle.syn_reader.specs.Answers.{◌>>=◌, each}
use Rattle.syn_reader.specs.Names.{cluster_made, with_clusters}
use Rattle.syn_reader.specs.NamedLists.{list_read, list_made}
use Rattle.syn_reader.specs.Items.{with_names}

abbrev pub with_change_read : List (List ℕ) → List ReadChange → Change × NamedList → Result (List ReadChange) Cause
with_change_read groups so_far change = list_read groups change.1 >>= λ list. Ok (so_far ++ record { how = change.0; list = list } ∷ [])

-- the parts of a cluster command, by the groups that are named before it
abbrev pub changes_read : List (List ℕ) → List (Change × NamedList) → Result (List ReadChange) Cause
changes_read groups changes = each (with_change_read groups) [] changes

-- one part, carried out on the cluster of this number
abbrev pub with_change_made : ℕ → Names → ReadChange → Result Names Cause
with_change_made cluster known change = do
  made ← list_made known change.list
  Ok (with_clusters made.1 (with_change made.1.clusters cluster change.how made.0.entries))

abbrev pub changes_made : Names → List ℕ → List ReadChange → Result Names Cause
changes_made known name changes = do
  cluster ← cluster_made known name
  each (with_change_made cluster.0) cluster.1 changes

-- a cluster command: the cluster is named first, then its parts are carried out in the order written
abbrev pub cluster_command : Reading → List ℕ → List (Change × NamedList) → Result Reading Cause
cluster_command reading name changes = do
  read ← changes_read reading.names.groups changes
  known ← changes_made reading.names name read
  Ok (with_names reading known)

-- All items, keywords and clusters go, and case matters again. Groups, links and the keyword set stay.
abbrev pub all_cleared : Reading → Reading
all_cleared reading = record reading {
  names = with_clusters reading.names no_clusters;
  items = map (cleared None) reading.items;
  keywords = [];
  ignore = false;
}

-- a name that isn't known is no fault, and isn't made
abbrev pub group_cleared : Reading → Option GroupId → Reading
group_cleared reading None = reading
group_cleared reading (Some group) = record reading { items = map (cleared (Some group)) reading.items }

abbrev pub cluster_cleared : Reading → Option ℕ → Reading
cluster_cleared reading None = reading
cluster_cleared reading (Some cluster) = with_names reading (with_clusters reading.names (with_change reading.names.clusters cluster Set []))

-- by a name in UTF-8
abbrev pub group_cleared_by : Reading → List ℕ → Reading
group_cleared_by reading name = group_cleared reading (group_of reading.names.groups name)

abbrev pub cluster_cleared_by : Reading → List ℕ → Reading
cluster_cleared_by reading name = cluster_cleared reading (cluster_of reading.names.clusters name)

-- the items of a group, or the entries of a cluster
abbrev pub name_cleared : Reading → Named → Reading
name_cleared reading (named.Group name) = group_cleared_by reading (encode_utf8_all name)
name_cleared reading (named.Cluster name) = cluster_cleared_by reading (encode_utf8_all name)
name_cleared reading (named.Names text) = reading

abbrev pub names_cleared : Reading → List Named → Reading
names_cleared reading names = fold name_cleared reading names
