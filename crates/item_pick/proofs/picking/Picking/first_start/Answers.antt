use Rattle.item_pick.proofs.Common.{◌≡◌, ◌∙◌, ◌-◌, suc, length, reverse, arith, rules_by, start_if_free, item_numbered, Some, ap, looked_first}
use Rattle.item_pick.proofs.FoundLaws.{item_none, item_some, item_stops, items_skip}
use Rattle.item_pick.proofs.QuietLaws.{starts_free}
use Rattle.item_pick.proofs.ScreenLaws.{still_held}
use Rattle.item_pick.proofs.ToldLaws.{stop_by, exits}
use Rattle.item_pick.proofs.picking.Picking.first_start.Goals as goal

pub items-init : goal.items-init
items-init g c =
    let f = start_if_free (rules_by c.args.self.now.asked.now) (g.T.Lines.lines c.args.self.now.lines.now) c.args.self.now.at c.args.self.now.floor (reverse c.args.self.now.tried.now) c.args.choice in
    let next = c.in_ok-left.ensures.next in
    let count : c.added.result ≡ length (rules_by c.args.self.now.asked.now).items = c.added.ensures.number in
    record {
      whole = items_skip f c.args.looked.now (length (rules_by c.args.self.now.asked.now).items) c.in_ok-left.left (c.added.result - c.in_ok-left.left) (omega (arith, next.behind, count))
          (λ j a b. next.idle j a (omega (arith, b, count)));
      within = omega (arith, next.behind, count);
      held = c.requires.may.held;
      free = c.in_ok-left.ensures.free;
      may = c.next_item.ensures.may;
    }

pub items-preserved : goal.items-preserved
items-preserved g c =
    let f = start_if_free (rules_by c.args.self.now.asked.now) (g.T.Lines.lines c.args.self.now.lines.now) c.args.self.now.at c.args.self.now.floor (reverse c.args.self.now.tried.now) c.args.choice in
    let one : c.items.left ≡ suc (c.items.left - 1) = omega arith in
    let next = c.in_ok-left-in-None.ensures.next in
    let same = starts_free (rules_by c.args.self.now.asked.now) (g.T.Lines.lines c.args.self.now.lines.now) c.args.self.now.at c.args.self.now.floor (reverse c.args.self.now.tried.now) c.args.choice (item_numbered (c.items.left - 1)) (c.items.invariant.free (c.items.left - 1) (omega arith)) in
    let absent = ap (looked_first (Some c.items.looked)) same ∙ (rw c.in-None.is at c.in_ok-found.ensures.told) in
    let held = still_held c.items.looked c.start_by.new.looked c.args.self.now.at.line (f (item_numbered (c.items.left - 1))) _ c.items.invariant.held absent in
    record {
      whole = c.items.invariant.whole
          ∙ (item_none f c.items.left (c.items.left - 1) one c.items.looked c.start_by.new.looked absent
          ∙ items_skip f c.start_by.new.looked (c.items.left - 1) c.in_ok-left-in-None.left ((c.items.left - 1) - c.in_ok-left-in-None.left) (omega (arith, next.behind))
          next.idle);
      within = omega (arith, next.behind, c.items.invariant.within);
      held = held;
      free = c.in_ok-left-in-None.ensures.free;
      may = c.next_item-in-None.ensures.may;
    }

pub next_item-requires-in-None-clause-may : goal.next_item-requires-in-None-clause-may
next_item-requires-in-None-clause-may g c =
    let f = start_if_free (rules_by c.args.self.now.asked.now) (g.T.Lines.lines c.args.self.now.lines.now) c.args.self.now.at c.args.self.now.floor (reverse c.args.self.now.tried.now) c.args.choice in
    let same = starts_free (rules_by c.args.self.now.asked.now) (g.T.Lines.lines c.args.self.now.lines.now) c.args.self.now.at c.args.self.now.floor (reverse c.args.self.now.tried.now) c.args.choice (item_numbered (c.items.left - 1)) (c.items.invariant.free (c.items.left - 1) (omega arith)) in
    let absent = ap (looked_first (Some c.items.looked)) same ∙ (rw c.in-None.is at c.in_ok-found.ensures.told) in
    record {
      ask = c.start_by.ensures.may;
      held = still_held c.items.looked c.start_by.new.looked c.args.self.now.at.line (f (item_numbered (c.items.left - 1))) _ c.items.invariant.held absent;
    }

pub items-smaller : goal.items-smaller
items-smaller g c = omega (arith, c.in_ok-left-in-None.ensures.next.behind, c.items-test.true)

pub returns-in-Some-clause-told : goal.returns-in-Some-clause-told
returns-in-Some-clause-told g c =
    let f = start_if_free (rules_by c.args.self.now.asked.now) (g.T.Lines.lines c.args.self.now.lines.now) c.args.self.now.at c.args.self.now.floor (reverse c.args.self.now.tried.now) c.args.choice in
    let next : c.items.left ≡ suc (c.items.left - 1) = omega arith in
    let same = starts_free (rules_by c.args.self.now.asked.now) (g.T.Lines.lines c.args.self.now.lines.now) c.args.self.now.at c.args.self.now.floor (reverse c.args.self.now.tried.now) c.args.choice (item_numbered (c.items.left - 1)) (c.items.invariant.free (c.items.left - 1) (omega arith)) in
    c.items.invariant.whole ∙ item_some f _ _ next _ _ _ (ap (looked_first (Some c.items.looked)) same ∙ (rw c.in-Some.is at c.in_ok-found.ensures.told))

pub returns-in_err-found-clause-told : goal.returns-in_err-found-clause-told
returns-in_err-found-clause-told g c =
    let f = start_if_free (rules_by c.args.self.now.asked.now) (g.T.Lines.lines c.args.self.now.lines.now) c.args.self.now.at c.args.self.now.floor (reverse c.args.self.now.tried.now) c.args.choice in
    let next : c.items.left ≡ suc (c.items.left - 1) = omega arith in
    let same = starts_free (rules_by c.args.self.now.asked.now) (g.T.Lines.lines c.args.self.now.lines.now) c.args.self.now.at c.args.self.now.floor (reverse c.args.self.now.tried.now) c.args.choice (item_numbered (c.items.left - 1)) (c.items.invariant.free (c.items.left - 1) (omega arith)) in
    exits _ _ c.in_err-found.field-0.0 _ _ _ c.from_residual-in_err-found.ensures.1
    (stop_by _ _ _ c.items.invariant.whole (item_stops f _ _ next _ _ (rw same c.in_err-found.ensures.told)))
