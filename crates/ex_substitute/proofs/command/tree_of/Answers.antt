use Rattle.std.proofs.Common.{sym, ◌∙◌}
use Rattle.ex_substitute.proofs.TreeLaws.{tree-read}
use Rattle.ex_substitute.proofs.command.tree_of.Goals as goal

pub returns-in-Ok-clause-tree : goal.returns-in-Ok-clause-tree
returns-in-Ok-clause-tree c =
    tree-read c.reading_is_the_grammar.ensures.trees c.args.pattern.now _ (sym c.is_empty.ensures ∙ c.if-is_empty.false) c.in-Ok.ensures.tree
