use Rattle.item_pick.proofs.Common.{rules_in}
use Rattle.item_pick.proofs.LineLaws.{lacked_barren, more_barren}
use Rattle.item_pick.proofs.NeedLaws.{futile_lacked}
use Rattle.item_pick.proofs.line_known.LineKnown.note_lacking.Goals as goal
use Rattle.item_pick.proofs.Common.{line_at}

pub returns-in_ok-put : goal.returns-in_ok-put
returns-in_ok-put c parts budget t l many wanted line =
    more_barren (rules_in parts budget) t l c.args.self.now c.put.new.self _ c.put.ensures.kept line (lacked_barren (rules_in parts budget) t l (futile_lacked parts.sets.now budget) c.args.wanted.now.item
    (λ pattern its. c.is_lacked.ensures c.if-is_lacked.true (line_at t l) many parts.sets.now _ budget pattern.tree (wanted pattern its)))

pub returns-in_err-put : goal.returns-in_err-put
returns-in_err-put c parts budget t l many wanted line =
    more_barren (rules_in parts budget) t l c.args.self.now c.put.new.self _ c.put.ensures.kept line (lacked_barren (rules_in parts budget) t l (futile_lacked parts.sets.now budget) c.args.wanted.now.item
    (λ pattern its. c.is_lacked.ensures c.if-is_lacked.true (line_at t l) many parts.sets.now _ budget pattern.tree (wanted pattern its)))
