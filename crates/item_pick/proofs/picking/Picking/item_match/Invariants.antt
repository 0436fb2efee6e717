use Rattle.item_pick.proofs.Common.{◌≡◌, ◌≤◌, ◌-◌, suc, Some, looked_first, item_match, match_from, MayAsk, rules_by, HoldsLine}
use Rattle.item_pick.proofs.FoundLaws.{from_column}
use Rattle.item_pick.proofs.picking.Picking.item_match.Given as goal

-- what is left is the match from `col` on
abbrev pub invariant-columns : goal.invariant-columns
invariant-columns g l =
    let r = rules_by l.self.asked.now in
    let t = g.T.Lines.lines l.self.lines.now in
    record {
      whole : looked_first (Some l.fn.looked) (item_match r t l.by.item l.by.pattern.now l.self.at l.self.floor) ≡ from_column (match_from r t l.by.item l.by.pattern.now l.self.at) l.last l.looked l.col;
      held : HoldsLine l.looked l.self.at.line;
      may : MayAsk g.T.Lines.lines l.self l.memory;
      from : l.first ≤ l.col;
    }

abbrev pub decreases-columns : goal.decreases-columns
decreases-columns g l = suc l.last - l.col
