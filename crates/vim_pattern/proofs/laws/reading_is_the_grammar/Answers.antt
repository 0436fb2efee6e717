use Rattle.vim_pattern.proofs.FoldLaws as fold
use Rattle.vim_pattern.proofs.laws.reading_is_the_grammar.Goals as goal

pub returns-clause-trees : goal.returns-clause-trees
returns-clause-trees c = fold.trees

pub returns-clause-faults : goal.returns-clause-faults
returns-clause-faults c = fold.faults
