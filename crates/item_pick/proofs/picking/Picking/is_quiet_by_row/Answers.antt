use Rattle.item_pick.proofs.Common.{place_at, rules_by}
use Rattle.item_pick.proofs.QuietPlaceLaws.{row_empty}
use Rattle.item_pick.proofs.picking.Picking.is_quiet_by_row.Goals as goal

pub returns : goal.returns
returns g c = record {
  quiet = row_empty (rules_by c.args.self.now.asked.now) _ (place_at c.args.self.now.at.line c.args.col) _ _ c.args.choice (c.in_ok-no_item_left.ensures.none c.if-not-branch.false) c.no_keyword_starts.result c.no_keyword_starts.ensures;
  may = c.no_item_left.ensures.may;
}
