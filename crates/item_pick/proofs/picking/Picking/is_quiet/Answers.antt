use Rattle.item_pick.proofs.Common.{place_at, rules_by}
use Rattle.item_pick.proofs.QuietPlaceLaws.{row_empty}
use Rattle.item_pick.proofs.picking.Picking.is_quiet.Goals as goal

pub returns-else-not-still-clause-quiet : goal.returns-else-not-still-clause-quiet
returns-else-not-still-clause-quiet g c =
    row_empty (rules_by c.args.self.now.asked.now) _ (place_at c.args.self.now.at.line c.args.col) _ _ c.args.choice (c.in-Some-is_still_at.ensures c.if-not-still.false) c.no_keyword_starts.result c.no_keyword_starts.ensures
