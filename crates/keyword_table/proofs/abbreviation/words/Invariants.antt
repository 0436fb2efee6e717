use Rattle.std.proofs.Common.{◌≡◌, ◌++◌, drop}
use Rattle.keyword_table.specs.Abbreviation.{longer, words}
use Rattle.keyword_table.proofs.abbreviation.words.Given as goal

-- what is left are the words with more of the optional part than `word` has
abbrev pub invariant-loop-c : goal.invariant-loop-c
invariant-loop-c l = l.words ++ longer l.word.items (drop l.c-index l.optional) ≡ words l.stem l.optional
