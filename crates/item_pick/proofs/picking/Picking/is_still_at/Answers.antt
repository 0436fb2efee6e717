use Rattle.item_pick.proofs.Common.{arith, rules_by}
use Rattle.std.proofs.lemmas.Option.{IfSome_then}
use Rattle.item_pick.proofs.SettledLaws.{none_left}
use Rattle.item_pick.proofs.picking.Picking.is_still_at.Goals as goal

pub returns : goal.returns
returns g c =
    let r = rules_by c.args.self.now.asked.now in
    let t = g.T.Lines.lines c.args.self.now.lines.now in
    let l = c.args.self.now.at.line in
    let floor = c.args.self.now.floor in
    let k = c.args.looked in
    IfSome_then c.is_still.result c.is_still.ensures
    (λ still told e. none_left r t l c.args.choice floor k c.args.col (c.requires.settled (omega arith)) (told e t l c.requires.may.ask.memory c.requires.number floor c.requires.may.held))
