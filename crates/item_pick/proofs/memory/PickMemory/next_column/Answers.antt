use Rattle.item_pick.proofs.Common.{arith, rules_by}
use Rattle.item_pick.proofs.LineLaws.{barren_later}
use Rattle.item_pick.proofs.memory.PickMemory.next_column.Goals as goal

pub returns-then-branch-clause-next : goal.returns-then-branch-clause-next
returns-then-branch-clause-next g c =
    let p = c.args.picking.now in
    let s = p.asked.now in
    let r = rules_by s in
    let t = g.T.Lines.lines p.lines.now in
    barren_later r t p.at c.args.by.now.item (c.in_ok-starts_nowhere.ensures.nowhere c.if-branch.true t p.at.line c.requires.may.ask.memory) c.requires.may.ask.place.within c.args.looked c.requires.may.held
    c.args.by.now.pattern.now c.requires.start.own.1 c.args.col c.max.result (omega (arith, c.max.ensures))
