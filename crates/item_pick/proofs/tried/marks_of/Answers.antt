use Rattle.item_pick.proofs.Common.{item_numbered}
use Rattle.item_pick.proofs.ListLaws.{one_more}
use Rattle.item_pick.proofs.tried.marks_of.Goals as goal

pub loop-id-preserved : goal.loop-id-preserved
loop-id-preserved c = rw (one_more c.args.items.now c.loop-id.id-index (item_numbered 0) c.loop-id-test.true) (c.mark.ensures _ c.loop-id.invariant)
