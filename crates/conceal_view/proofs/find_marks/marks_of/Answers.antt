use Rattle.std.proofs.Common.{◌∙◌}
use Rattle.conceal_view.specs.Marks.{marks_of}
use Rattle.conceal_view.proofs.WalkLaws.{marks_of_one_more}
use Rattle.conceal_view.proofs.find_marks.marks_of.Goals as goal

pub loop-place-preserved : goal.loop-place-preserved
loop-place-preserved c =
    let items = c.args.items.now in
    let place = c.loop-place.place in
    let marks = c.loop-place.marks in
    marks_of_one_more items place c.item.result.now c.live.result c.item.ensures c.live.ensures
    c.as_slice.result.now marks c.push_marks.new.marks (marks_of items)
    (c.as_slice.ensures ∙ c.in_ok-groups.ensures) c.in_ok-push_marks.ensures c.loop-place.invariant
