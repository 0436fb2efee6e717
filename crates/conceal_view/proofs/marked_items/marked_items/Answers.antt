use Rattle.conceal_view.specs.Marking.{marked_from}
use Rattle.conceal_view.specs.MarkTables.{numbers_at}
use Rattle.conceal_view.proofs.WalkLaws.{one_item_more}
use Rattle.conceal_view.proofs.marked_items.marked_items.Goals as goal

pub loop-place-preserved : goal.loop-place-preserved
loop-place-preserved c =
    let items = c.args.items.now in
    let marks = numbers_at c.args.marks.now in
    one_item_more items c.loop-place.place c.item.result.now c.live-live.result c.item.ensures c.live-live.ensures
    marks c.loop-place.number c.marked_item.new.number c.in_ok-item.item c.loop-place.marked c.add.new.items (marked_from marks 20000 items)
    c.in_ok-item.ensures.item c.in_ok-item.ensures.number c.in_ok-add.ensures c.loop-place.invariant
