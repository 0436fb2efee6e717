-- Lists of groups (Vim's help, :syn-contains): names separated by commas, with blanks round them or none.
use Rattle.std.specs.Prelude.{ℕ, List, [], ◌∷◌, ◌++◌, Bool, true, false, if◌then◌else◌, Ok}
use Rattle.syn_words.specs.declared.what.Named.{Named}
use Rattle.syn_words.specs.declared.what.NamedList.{NamedList}
use Rattle.word_reader.specs.declared.words.Until.TheVariants.{ListName}
use Rattle.syntax_set.specs.declared.item.Special.{Special}
use Rattle.syntax_set.specs.declared.item.Special.TheVariants as special
use Rattle.syn_words.specs.Answers.{Read, ◌>>=◌}
use Rattle.syn_words.specs.Names.{group_in_list, cluster_in_list}
use Rattle.text_scan.specs.Characters.{past_blanks}
use Rattle.word_reader.specs.Words.{begins, behind_first, past, run}
use Rattle.syn_words.specs.Arguments.{value_start}
use Rattle.word_values.specs.GroupNames.{special_of}

abbrev pub no_names : NamedList
no_names = record { special = special.Plain; names = [] }

abbrev pub with_named : NamedList → Named → NamedList
with_named list named = record { special = list.special; names = list.names ++ named ∷ [] }

abbrev pub with_cluster : NamedList → List ℕ → Read NamedList
with_cluster list text = do
  named ← cluster_in_list (run ListName text)
  Ok (with_named list named, past ListName text)

abbrev pub with_group : NamedList → List ℕ → Read NamedList
with_group list text = do
  named ← group_in_list (run ListName text)
  Ok (with_named list named, past ListName text)

abbrev pub with_special : NamedList → Special → NamedList
with_special list found = record { special = found; names = list.names }

-- a special word, and else a group
abbrev pub with_word : Special → NamedList → List ℕ → Read NamedList
with_word special.Plain list text = with_group list text
with_word found list text = Ok (with_special list found, past ListName text)

abbrev pub special_here : Bool → List ℕ → Special
special_here true word = special_of word
special_here false word = special.Plain

-- a special word, where one may stand, and else a group
abbrev pub with_word_here : Bool → NamedList → List ℕ → Read NamedList
with_word_here may_be_special list text = with_word (special_here may_be_special (run ListName text)) list text

-- one name more; the first says whether a special word may stand here
abbrev pub with_name : Bool → NamedList → List ℕ → Read NamedList
with_name may_be_special list text = if begins 64 text then with_cluster list (behind_first text) else with_word_here may_be_special list text

-- The names from here on, behind those so far. A name takes a character at least, so as many turns as characters are enough.
abbrev pub names_after : Bool → NamedList → List ℕ → List ℕ → Read NamedList
names_after may_be_special list [] text = Ok (list, text)
names_after may_be_special list (t ∷ turns) text = do
  longer ← with_name may_be_special list text
  if begins 44 (past_blanks longer.1) then names_after false longer.0 turns (past_blanks (behind_first (past_blanks longer.1))) else Ok (longer.0, past_blanks longer.1)

-- the list that begins here
abbrev pub names_from : Bool → List ℕ → Read NamedList
names_from may_be_special text = names_after may_be_special no_names text text

-- the list behind an equals sign
abbrev pub list_value : Bool → List ℕ → Read NamedList
list_value may_be_special text = do
  start ← value_start text
  names_from may_be_special start
