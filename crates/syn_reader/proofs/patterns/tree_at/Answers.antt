use Rattle.syn_reader.proofs.TreeLaws.{tree_is_read}
use Rattle.syn_reader.proofs.patterns.tree_at.Goals as goal

pub returns-in-Ok-clause-tree : goal.returns-in-Ok-clause-tree
returns-in-Ok-clause-tree c = tree_is_read _ _ _ c.in-Ok.ensures.tree
