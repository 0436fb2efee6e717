use Rattle.vim_pattern.proofs.TextLaws as texts
use Rattle.vim_pattern.proofs.laws.at_most_one_fault.Goals as goal

pub returns : goal.returns
returns c = texts.one_fault
