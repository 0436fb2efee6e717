use Rattle.std.proofs.Common.{sym}
use Rattle.paint_reuse.proofs.SameStates.{state_is_same}
use Rattle.state_stack.specs.TopFirst.{top_first}
use Rattle.state_cache.proofs.SameLaws.{same_as}
use Rattle.state_cache.proofs.edit_walk.is_same.Goals as goal

pub returns-in-None : goal.returns-in-None
returns-in-None c = rw c.in-None.is (sym (state_is_same (top_first c.args.old.now)))

pub returns-in-Some : goal.returns-in-Some
returns-in-Some c = rw c.in-Some.is (same_as c.args.old.now c.in-Some.state c.same.result c.same.ensures)
