-- Names of groups and clusters (Vim's help, group-name): one that isn't known yet is made, unless there are as many as there
-- may be.
use Rattle.std.specs.Prelude.{ℕ, not, ◌&&◌, nat_eq, Bool, List, length, is_some, position, unwrap_or, if◌then◌else◌, Result, Ok, Err, encode_utf8_all}
use Rattle.syn_base.specs.declared.places.GroupId.{GroupId}
use Rattle.syntax_set.specs.Groups.{group_of, group_numbered, is_same_name, with_group}
use Rattle.syntax_set.specs.ClusterTable.{ClusterTable}
use Rattle.syntax_set.specs.ClusterLists.{with_cluster}
use Rattle.syn_words.specs.declared.cause.Cause.{Cause}
use Rattle.syn_words.specs.declared.cause.Cause.TheVariants.{TooManyGroups}
use Rattle.syn_reader.specs.declared.names.Names.{Names}

abbrev pub with_groups : Names → List (List ℕ) → Names
with_groups known groups = record { groups = groups; clusters = known.clusters }

abbrev pub with_clusters : Names → ClusterTable → Names
with_clusters known clusters = record { groups = known.groups; clusters = clusters }

-- a new name finds no room behind 20,000 others
abbrev pub is_full : List (List ℕ) → List ℕ → Bool
is_full names name = not (is_some (group_of names name)) && nat_eq (length names) 20000

-- the number of a name that is there
abbrev pub number_in : List (List ℕ) → List ℕ → ℕ
number_in names name = unwrap_or (position (is_same_name name) names) 0

-- a value, and the names that are known then
abbrev pub Made : Type 0 → Type 0
Made A = Result (A × Names) Cause

-- the group of a name in UTF-8
abbrev pub group_named : Names → List ℕ → Made GroupId
group_named known name =
    if is_full known.groups name then Err TooManyGroups
    else Ok (group_numbered (number_in (with_group known.groups name) name), with_groups known (with_group known.groups name))

abbrev pub cluster_named : Names → List ℕ → Made ℕ
cluster_named known name =
    if is_full known.clusters.names name then Err TooManyGroups
    else Ok (number_in (with_cluster known.clusters name).names name, with_clusters known (with_cluster known.clusters name))

-- the group of a name as a command has it
abbrev pub group_made : Names → List ℕ → Made GroupId
group_made known name = group_named known (encode_utf8_all name)

abbrev pub cluster_made : Names → List ℕ → Made ℕ
cluster_made known name = cluster_named known (encode_utf8_all name)
