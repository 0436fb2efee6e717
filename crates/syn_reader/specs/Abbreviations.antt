-- The words of a keyword (Vim's help, :syn-keyword): first its brackets are looked at, then its length.
use Rattle.std.specs.Prelude.{ℕ, nat_lt, max, List, [], ◌∷◌, length, Option, Some, None, if◌then◌else◌, Result, Ok, Err}
use Rattle.keyword_table.specs.Abbreviation.{expansions}
use Rattle.syn_words.specs.declared.cause.Cause.{Cause}
use Rattle.syn_words.specs.declared.cause.Cause.TheVariants.{BadBrackets, TooLongWord}
use Rattle.syn_reader.specs.Answers.{◌>>=◌}

-- how many characters the longest word has
abbrev pub longest : List (List ℕ) → ℕ
longest [] = 0
longest (word ∷ words) = max (length word) (longest words)

abbrev pub any_words : Option (List (List ℕ)) → Result (List (List ℕ)) Cause
any_words None = Err BadBrackets
any_words (Some words) = Ok words

-- no word of a keyword has more than 80 characters
abbrev pub short_words : List (List ℕ) → Result (List (List ℕ)) Cause
short_words words = if nat_lt 80 (longest words) then Err TooLongWord else Ok words

-- the words that a keyword stands for
abbrev pub words_of : List ℕ → Result (List (List ℕ)) Cause
words_of text = any_words (expansions text) >>= short_words
