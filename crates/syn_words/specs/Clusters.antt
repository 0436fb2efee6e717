-- The parts of a cluster command, in the order written (Vim's help, :syn-cluster).
use Rattle.std.specs.Prelude.{ℕ, List, [], ◌∷◌, ◌++◌, Option, Some, None, false, if◌then◌else◌, Result, Ok, Err, codes}
use Rattle.syn_words.specs.declared.cause.Cause.{Cause}
use Rattle.syn_words.specs.declared.cause.Cause.TheVariants.{UnknownOption, MissingArgument}
use Rattle.syn_words.specs.declared.what.NamedList.{NamedList}
use Rattle.word_reader.specs.declared.words.Until.TheVariants as until
use Rattle.syntax_set.specs.declared.clusters.Change.{Change}
use Rattle.syntax_set.specs.declared.clusters.Change.TheVariants as change
use Rattle.syn_words.specs.Answers.{Read, ◌>>=◌}
use Rattle.syn_words.specs.Lists.{list_value}
use Rattle.text_scan.specs.Characters.{past_blanks}
use Rattle.word_reader.specs.Words.{behind_equals, has_equals, is_over, is_word_in_any_case, past, run}

abbrev pub change_of : List ℕ → Option Change
change_of key =
    if is_word_in_any_case key (codes "contains") then Some change.Set
    else if is_word_in_any_case key (codes "add") then Some change.Add
    else if is_word_in_any_case key (codes "remove") then Some change.Remove
    else None

abbrev pub change_with : Change → List ℕ → Read (Change × NamedList)
change_with how text = do
  list ← list_value false text
  Ok ((how, list.0), list.1)

abbrev pub change_by : Option Change → List ℕ → Read (Change × NamedList)
change_by None rest = Err UnknownOption
change_by (Some how) rest = if has_equals rest then change_with how (behind_equals rest) else Err UnknownOption

-- one key with its list
abbrev pub change_piece : List ℕ → Read (Change × NamedList)
change_piece text = change_by (change_of (run until.Key text)) (past until.Key text)

-- there is at least one list
abbrev pub changes_whole : List (Change × NamedList) → Result (List (Change × NamedList)) Cause
changes_whole [] = Err MissingArgument
changes_whole (c ∷ cs) = Ok (c ∷ cs)

abbrev pub changes_so_far : List (Change × NamedList) → List ℕ → Read (List (Change × NamedList))
changes_so_far so_far text = changes_whole so_far >>= λ all. Ok (all, text)

-- The changes from here on, behind those so far. One takes a character at least, so as many turns as characters are enough.
abbrev pub changes_after : List (Change × NamedList) → List ℕ → List ℕ → Read (List (Change × NamedList))
changes_after so_far [] text = changes_so_far so_far text
changes_after so_far (t ∷ turns) text =
    if is_over (past_blanks text) then changes_so_far so_far (past_blanks text)
    else (change_piece (past_blanks text) >>= λ p. changes_after (so_far ++ p.0 ∷ []) turns p.1)

abbrev pub changes : List ℕ → Read (List (Change × NamedList))
changes text = changes_after [] text text
