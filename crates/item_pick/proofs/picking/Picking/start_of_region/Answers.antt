use Rattle.item_pick.proofs.Common.{◌≡◌, ◌∙◌, ◌-◌, suc, refl, arith, take-length, rules_by, start_at}
use Rattle.item_pick.proofs.FoundLaws.{below_none, below_some, below_stops}
use Rattle.item_pick.proofs.ScreenLaws.{still_held}
use Rattle.item_pick.proofs.ToldLaws.{stop_by, exits}
use Rattle.item_pick.proofs.picking.Picking.start_of_region.Goals as goal

pub starts-init : goal.starts-init
starts-init g c =
    let f = start_at (rules_by c.args.self.now.asked.now) (g.T.Lines.lines c.args.self.now.lines.now) c.args.self.now.at c.args.self.now.floor c.args.id in
    record {
      whole = rw (c.len-left.ensures, take-length c.args.starts.now) refl;
      within = omega arith;
      held = c.requires.may.held;
      may = c.requires.may.ask;
    }

pub starts-preserved : goal.starts-preserved
starts-preserved g c =
    let f = start_at (rules_by c.args.self.now.asked.now) (g.T.Lines.lines c.args.self.now.lines.now) c.args.self.now.at c.args.self.now.floor c.args.id in
    let next : c.starts.left ≡ suc (c.starts.left - 1) = omega arith in
    record {
      whole = c.starts.invariant.whole ∙ below_none f c.args.starts.now _ _ _ next c.starts.invariant.within c.get.ensures _ _ (rw c.in-None.is at c.in_ok-found.ensures.told);
      within = omega arith;
      held = still_held _ _ _ _ _ c.starts.invariant.held (rw c.in-None.is at c.in_ok-found.ensures.told);
      may = c.start_at.ensures.may;
    }

pub returns-in-Some-clause-told : goal.returns-in-Some-clause-told
returns-in-Some-clause-told g c =
    let f = start_at (rules_by c.args.self.now.asked.now) (g.T.Lines.lines c.args.self.now.lines.now) c.args.self.now.at c.args.self.now.floor c.args.id in
    let next : c.starts.left ≡ suc (c.starts.left - 1) = omega arith in
    c.starts.invariant.whole ∙ below_some f c.args.starts.now _ _ _ next c.starts.invariant.within c.get.ensures _ _ _ (rw c.in-Some.is at c.in_ok-found.ensures.told)

pub returns-in_err-found-clause-told : goal.returns-in_err-found-clause-told
returns-in_err-found-clause-told g c =
    let f = start_at (rules_by c.args.self.now.asked.now) (g.T.Lines.lines c.args.self.now.lines.now) c.args.self.now.at c.args.self.now.floor c.args.id in
    let next : c.starts.left ≡ suc (c.starts.left - 1) = omega arith in
    exits _ _ c.in_err-found.field-0.0 _ _ _ c.from_residual.ensures.1
    (stop_by _ _ _ c.starts.invariant.whole (below_stops f c.args.starts.now _ _ _ next c.starts.invariant.within c.get.ensures _ _ c.in_err-found.ensures.told))
