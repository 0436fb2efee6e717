use Rattle.item_pick.proofs.Common.{arith}
use Rattle.item_pick.proofs.asked.Asked.has_no_keyword.Goals as goal

pub returns : goal.returns
returns c = λ _ j by. c.loop-id.invariant j (omega (arith, by.0, c.loop-id-test.false)) by
