use Rattle.item_pick.proofs.Common.{◌∙◌, ap, reverse, Some, looked_first, goes_on, rules_by}
use Rattle.item_pick.proofs.ToldLaws.{stops, stop_by, exits}
use Rattle.item_pick.proofs.PickLaws.{allowed_as}
use Rattle.item_pick.proofs.picking.Picking.pick_allowed.Goals as goal

pub returns-in_err-found-clause-told : goal.returns-in_err-found-clause-told
returns-in_err-found-clause-told g c =
    let r = rules_by c.args.self.now.asked.now in
    let t = g.T.Lines.lines c.args.self.now.lines.now in
    let same = allowed_as r t c.args.self.now.at c.args.self.now.floor (reverse c.args.self.now.tried.now) c.allowed.result (reverse c.args.stack.now) c.allowed.ensures.allowed in
    exits _ _ c.in_err-found.field-0.0 _ _ _ c.from_residual.ensures.1 (stop_by _ _ _ (ap (looked_first (Some c.args.looked.now)) same) (stops _ _ _ _ c.in_err-found.ensures.told))

pub returns-in-Some-clause-told : goal.returns-in-Some-clause-told
returns-in-Some-clause-told g c =
    let r = rules_by c.args.self.now.asked.now in
    let t = g.T.Lines.lines c.args.self.now.lines.now in
    let same = allowed_as r t c.args.self.now.at c.args.self.now.floor (reverse c.args.self.now.tried.now) c.allowed.result (reverse c.args.stack.now) c.allowed.ensures.allowed in
    ap (looked_first (Some c.args.looked.now)) same ∙ goes_on _ _ _ _ _ (rw c.in-Some.is at c.in_ok-found.ensures.told)

pub returns-in-None-clause-told : goal.returns-in-None-clause-told
returns-in-None-clause-told g c =
    let r = rules_by c.args.self.now.asked.now in
    let t = g.T.Lines.lines c.args.self.now.lines.now in
    let same = allowed_as r t c.args.self.now.at c.args.self.now.floor (reverse c.args.self.now.tried.now) c.allowed.result (reverse c.args.stack.now) c.allowed.ensures.allowed in
    ap (looked_first (Some c.args.looked.now)) same ∙ goes_on _ _ _ _ _ (rw c.in-None.is at c.in_ok-found.ensures.told)
