use Rattle.item_pick.proofs.Common.{◌≡◌, ◌≤◌, length, reverse, MayAsk, rules_by, start_if_free, items_below, HoldsLine}
use Rattle.item_pick.specs.Tables.{IsLastFree}
use Rattle.item_pick.proofs.FoundLaws.{found_after}
use Rattle.item_pick.proofs.picking.Picking.first_start.Given as goal

-- what is left are the items before
abbrev pub invariant-items : goal.invariant-items
invariant-items g l =
    let r = rules_by l.self.asked.now in
    let t = g.T.Lines.lines l.self.lines.now in
    let f = start_if_free r t l.self.at l.self.floor (reverse l.self.tried.now) l.choice in
    record {
      whole : found_after f l.fn.looked (items_below (length r.items)) ≡ found_after f l.looked (items_below l.left);
      within : l.left ≤ length r.items;
      held : HoldsLine l.looked l.self.at.line;
      free : IsLastFree r (reverse l.self.tried.now) l.choice l.left;
      may : MayAsk g.T.Lines.lines l.self l.memory;
    }

abbrev pub decreases-items : goal.decreases-items
decreases-items g l = l.left
