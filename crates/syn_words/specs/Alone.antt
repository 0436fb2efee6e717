-- Commands that take no more words.
use Rattle.std.specs.Prelude.{ℕ, List, Ok}
use Rattle.syn_words.specs.declared.what.What.{What}
use Rattle.syn_words.specs.Answers.{Read, ◌>>=◌}
use Rattle.syn_words.specs.Arguments.{no_more}

abbrev pub alone : What → List ℕ → Read What
alone w text = do
  rest ← no_more text
  Ok (w, rest)
