use Rattle.pattern_items.proofs.LevelLaws.{rows_spelled, letters_spelled, others_spelled}
use Rattle.pattern_items.proofs.laws.levels_of_magic.Goals as goal

pub returns-clause-items : goal.returns-clause-items
returns-clause-items c = rows_spelled

pub returns-clause-letters : goal.returns-clause-letters
returns-clause-letters c = letters_spelled

pub returns-clause-others : goal.returns-clause-others
returns-clause-others c = others_spelled
