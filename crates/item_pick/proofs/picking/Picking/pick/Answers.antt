use Rattle.item_pick.proofs.Common.{◌∙◌, sym, reverse, rules_by}
use Rattle.item_pick.proofs.ToldLaws.{told_by}
use Rattle.item_pick.proofs.PickLaws.{wait_met, wait_over}
use Rattle.item_pick.proofs.ScreenLaws.{still_held}
use Rattle.item_pick.proofs.picking.Picking.pick.Goals as goal

pub returns-in-None-clause-told : goal.returns-in-None-clause-told
returns-in-None-clause-told g c = rw c.in-None.is c.pick_allowed.ensures.told

pub returns-in-Some-found-clause-told : goal.returns-in-Some-found-clause-told
returns-in-Some-found-clause-told g c =
    let r = rules_by c.args.self.now.asked.now in
    let t = g.T.Lines.lines c.args.self.now.lines.now in
    rw c.in-Some.is (wait_met r t c.args.self.now.at c.args.self.now.floor (reverse c.args.self.now.tried.now) (reverse c.args.stack.now) c.in-Some.wait _ _ _ (rw c.in-Some-found.is at c.in_ok-found-in-Some.ensures.told))

pub returns-else-waits_on-clause-told : goal.returns-else-waits_on-clause-told
returns-else-waits_on-clause-told g c =
    let r = rules_by c.args.self.now.asked.now in
    let t = g.T.Lines.lines c.args.self.now.lines.now in
    rw c.in-Some.is (told_by _ _ _ _ _ _ _ (wait_over r t c.args.self.now.at c.args.self.now.floor (reverse c.args.self.now.tried.now) (reverse c.args.stack.now) c.in-Some.wait _ _ (rw c.in-None-found.is at c.in_ok-found-in-Some.ensures.told) (sym c.waits_on.ensures ∙ c.if-waits_on.false)) c.pick_allowed-else-waits_on.ensures.told)

pub pick_allowed-requires-else-waits_on-clause-may : goal.pick_allowed-requires-else-waits_on-clause-may
pick_allowed-requires-else-waits_on-clause-may g c = record {
  ask = c.start_among.ensures.may;
  held = still_held _ _ _ _ _ c.requires.may.held (rw c.in-None-found.is at c.in_ok-found-in-Some.ensures.told);
}
