use Rattle.item_pick.proofs.Common.{reverse, rules_by}
use Rattle.item_pick.proofs.PickLaws.{no_word}
use Rattle.item_pick.proofs.picking.Picking.start_among_some.Goals as goal

pub returns-in-None-clause-told : goal.returns-in-None-clause-told
returns-in-None-clause-told g c =
    let r = rules_by c.args.self.now.asked.now in
    let t = g.T.Lines.lines c.args.self.now.lines.now in
    rw (no_word r t c.args.self.now.at c.args.self.now.floor (reverse c.args.self.now.tried.now) c.args.choice (rw c.in-None.is at c.in_ok-word.ensures.is)) c.first_start.ensures.told
