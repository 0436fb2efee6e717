use Rattle.syn_folds.proofs.levels.line_level.Goals as goal

pub returns : goal.returns
returns c = cc
