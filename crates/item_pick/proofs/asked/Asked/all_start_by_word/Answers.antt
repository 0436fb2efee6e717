use Rattle.item_pick.proofs.Common.{below_more, arith}
use Rattle.item_pick.proofs.asked.Asked.all_start_by_word.Goals as goal

pub loop-number-preserved : goal.loop-number-preserved
loop-number-preserved c = below_more _ _ c.loop-number.invariant (c.defines_keyword.ensures c.if-not-defines_keyword.false)

pub returns : goal.returns
returns c = λ _ k any h. c.loop-number.invariant k (omega (arith, h, c.loop-number-test.false)) any
