-- Names of groups and clusters (Vim's help, group-name).
use Rattle.std.specs.Prelude.{ℕ, not, List, if◌then◌else◌, Result, Ok, Err}
use Rattle.syn_words.specs.declared.cause.Cause.{Cause}
use Rattle.syn_words.specs.declared.cause.Cause.TheVariants.{BadGroupName, ReservedName, BadList}
use Rattle.syn_words.specs.declared.what.Named.{Named}
use Rattle.syn_words.specs.declared.what.Named.TheVariants.{Group, Cluster, Names}
use Rattle.syn_words.specs.Answers.{Read, ◌>>=◌}
use Rattle.syn_words.specs.Arguments.{argument}
pub use Rattle.word_values.specs.GroupNames.{is_none}
use Rattle.word_values.specs.GroupNames.{is_group_name, is_reserved, is_listed, is_pattern}

-- the name of a group or a cluster outside a list
abbrev pub group_name : List ℕ → Result (List ℕ) Cause
group_name word = if not (is_group_name word) then Err BadGroupName else if is_reserved word then Err ReservedName else Ok word

-- the next word as a name
abbrev pub group_argument : List ℕ → Read (List ℕ)
group_argument text = do
  word ← argument text
  name ← group_name word.0
  Ok (name, word.1)

-- a name of a list: with one of these characters it is a pattern of names
abbrev pub group_in_list : List ℕ → Result Named Cause
group_in_list word = if is_pattern word then Ok (Names word) else if is_listed word then Ok (Group word) else Err BadList

-- behind an at sign
abbrev pub cluster_in_list : List ℕ → Result Named Cause
cluster_in_list word = if is_listed word then Ok (Cluster word) else Err BadList
