use Rattle.vim_pattern.proofs.TextLaws as texts
use Rattle.vim_pattern.proofs.laws.tree_or_fault.Goals as goal

pub returns : goal.returns
returns c = texts.tree_or_fault
