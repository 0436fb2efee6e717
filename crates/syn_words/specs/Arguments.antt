-- Words that a command needs, and where it may take none.
use Rattle.std.specs.Prelude.{nat_eq, List, [], ◌∷◌, ℕ, if◌then◌else◌, Result, Ok, Err}
use Rattle.syn_words.specs.declared.cause.Cause.{Cause}
use Rattle.syn_words.specs.declared.cause.Cause.TheVariants.{MissingArgument, ExtraText}
use Rattle.word_reader.specs.declared.words.Until.TheVariants.{Word}
use Rattle.syn_words.specs.Answers.{Read, ◌>>=◌}
use Rattle.text_scan.specs.Characters.{is_blank, past_blanks}
use Rattle.word_reader.specs.Words.{is_over, past, run}

-- what is left behind a command that takes no more words
abbrev pub no_more_at : List ℕ → Result (List ℕ) Cause
no_more_at text = if is_over text then Ok text else Err ExtraText

abbrev pub no_more : List ℕ → Result (List ℕ) Cause
no_more text = no_more_at (past_blanks text)

-- where the next word begins
abbrev pub word_start_at : List ℕ → Result (List ℕ) Cause
word_start_at text = if is_over text then Err MissingArgument else Ok text

abbrev pub word_start : List ℕ → Result (List ℕ) Cause
word_start text = word_start_at (past_blanks text)

-- where the value behind an equals sign begins: a quote belongs to it where no blank stands between
abbrev pub value_start : List ℕ → Result (List ℕ) Cause
value_start [] = Err MissingArgument
value_start (c ∷ cs) = if is_blank c then word_start cs else if nat_eq c 124 then Err MissingArgument else Ok (c ∷ cs)

-- the next word
abbrev pub argument : List ℕ → Read (List ℕ)
argument text = do
  start ← word_start text
  Ok (run Word start, past Word start)
