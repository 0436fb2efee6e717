-- Names of files that a syntax file asks for.
use Rattle.std.specs.Prelude.{ℕ, List, if◌then◌else◌, Result, Ok, Err}
use Rattle.syn_words.specs.declared.cause.Cause.{Cause}
use Rattle.syn_words.specs.declared.cause.Cause.TheVariants.{BadFileName}
use Rattle.syn_words.specs.Answers.{Read, ◌>>=◌}
use Rattle.syn_words.specs.Arguments.{argument}
use Rattle.word_values.specs.Paths.{is_file_name, in_folder_of}

abbrev pub file_name : List ℕ → Result (List ℕ) Cause
file_name word = if is_file_name word then Ok (in_folder_of word) else Err BadFileName

-- the next word as a file name
abbrev pub file_argument : List ℕ → Read (List ℕ)
file_argument text = do
  word ← argument text
  name ← file_name word.0
  Ok (name, word.1)
