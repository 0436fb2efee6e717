use Rattle.paint_reuse.proofs.SameStates.{equal_states}
use Rattle.paint_reuse.proofs.laws.equal_states_are_the_same.Goals as goal

pub returns : goal.returns
returns c = equal_states
