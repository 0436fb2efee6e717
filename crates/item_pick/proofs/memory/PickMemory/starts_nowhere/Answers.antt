use Rattle.item_pick.proofs.memory.PickMemory.starts_nowhere.Goals as goal

pub returns-then-is_barren-clause-nowhere : goal.returns-then-is_barren-clause-nowhere
returns-then-is_barren-clause-nowhere c e t l memory = c.is_barren.ensures c.if-is_barren.true _ t l memory.line
