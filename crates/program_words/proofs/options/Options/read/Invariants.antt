use Rattle.std.proofs.Common.{◌≡◌, drop}
use Rattle.std.specs.Prelude.{Some}
use Rattle.program_words.specs.Words.{options_said, texts_of, with_options}
use Rattle.program_words.proofs.options.Options.read.Given as goal

abbrev pub invariant-loop-word : goal.invariant-loop-word
invariant-loop-word l = options_said (texts_of l.words) ≡ with_options (Some l.options) (drop l.word-index (texts_of l.words))
