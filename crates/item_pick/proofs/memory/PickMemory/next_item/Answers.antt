use Rattle.item_pick.proofs.Common.{reverse, rules_by}
use Rattle.item_pick.proofs.TableLaws.{next_ok}
use Rattle.item_pick.proofs.memory.PickMemory.next_item.Goals as goal

pub returns-in-Some-clause-next : goal.returns-in-Some-clause-next
returns-in-Some-clause-next g c =
    let p = c.args.picking.now in
    let s = p.asked.now in
    let r = rules_by s in
    let t = g.T.Lines.lines p.lines.now in
    next_ok r t p.at p.floor (reverse p.tried.now) c.args.choice c.args.looked c.args.left c.left_in.result
    (c.left_in.ensures.next t p.at.line c.requires.may.ask.memory.line (c.in-Some.ensures r t p.at.line c.requires.may.ask.memory.line) c.requires.may.held)
