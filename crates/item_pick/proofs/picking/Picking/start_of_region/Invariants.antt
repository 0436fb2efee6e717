use Rattle.item_pick.proofs.Common.{◌≡◌, ◌≤◌, length, reverse, MayAsk, rules_by, start_at, HoldsLine}
use Rattle.item_pick.proofs.FoundLaws.{found_after, below}
use Rattle.item_pick.proofs.picking.Picking.start_of_region.Given as goal

-- what is left are the patterns before
abbrev pub invariant-starts : goal.invariant-starts
invariant-starts g l =
    let f = start_at (rules_by l.self.asked.now) (g.T.Lines.lines l.self.lines.now) l.self.at l.self.floor l.id in
    record {
      whole : found_after f l.fn.looked (reverse l.starts) ≡ below f l.starts l.looked l.left;
      within : l.left ≤ length l.starts;
      held : HoldsLine l.looked l.self.at.line;
      may : MayAsk g.T.Lines.lines l.self l.memory;
    }

abbrev pub decreases-starts : goal.decreases-starts
decreases-starts g l = l.left
