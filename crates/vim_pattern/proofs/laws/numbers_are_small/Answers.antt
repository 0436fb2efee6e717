use Rattle.vim_pattern.proofs.NumberLaws as numbers
use Rattle.vim_pattern.proofs.laws.numbers_are_small.Goals as goal

pub returns : goal.returns
returns c = numbers.text_has
