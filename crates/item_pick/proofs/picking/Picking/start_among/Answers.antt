use Rattle.item_pick.proofs.Common.{reverse, rules_by}
use Rattle.item_pick.proofs.BareLaws.{bare_starts}
use Rattle.item_pick.proofs.picking.Picking.start_among.Goals as goal

pub returns-then-is_bare-clause-told : goal.returns-then-is_bare-clause-told
returns-then-is_bare-clause-told g c =
    let here = c.args.self.now in
    let r = rules_by here.asked.now in
    bare_starts r (g.T.Lines.lines here.lines.now) here.at here.floor c.args.looked.now (reverse here.tried.now) c.args.choice (c.is_bare.ensures c.if-is_bare.true r c.requires.may.ask.memory.tables)
