use Rattle.vim_pattern.proofs.TextLaws as texts
use Rattle.vim_pattern.proofs.laws.tree_and_fault_exclude.Goals as goal

pub returns : goal.returns
returns c = texts.not_both
