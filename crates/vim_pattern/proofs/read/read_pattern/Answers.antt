use Rattle.std.proofs.Common.{arith}
use Rattle.vim_pattern.proofs.NumberLaws.{read_has}
use Rattle.vim_pattern.proofs.TextLaws.{gives_tree, gives_fault, no_tree}
use Rattle.vim_pattern.proofs.read.read_pattern.Goals as goal

pub returns-clause-tree : goal.returns-clause-tree
returns-clause-tree c = gives_tree c.args.text.now c.args.usage c.read_items.result (omega arith) c.read_items.ensures

pub returns-clause-fault : goal.returns-clause-fault
returns-clause-fault c = gives_fault c.args.text.now c.args.usage c.read_items.result (omega arith) c.read_items.ensures

pub returns-clause-no_tree : goal.returns-clause-no_tree
returns-clause-no_tree c = no_tree c.args.text.now c.args.usage c.read_items.result (gives_fault c.args.text.now c.args.usage c.read_items.result (omega arith) c.read_items.ensures)

pub returns-clause-numbers : goal.returns-clause-numbers
returns-clause-numbers c = read_has c.args.text.now c.args.usage c.read_items.result (gives_tree c.args.text.now c.args.usage c.read_items.result (omega arith) c.read_items.ensures)
