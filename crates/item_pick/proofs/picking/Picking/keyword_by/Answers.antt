use Rattle.item_pick.proofs.Common.{line_at, reverse, rules_by}
use Rattle.item_pick.proofs.WordLaws.{wordless_none}
use Rattle.item_pick.proofs.picking.Picking.keyword_by.Goals as goal

pub returns-then-is_wordless-clause-is : goal.returns-then-is_wordless-clause-is
returns-then-is_wordless-clause-is g c =
    let here = c.args.self.now in
    let r = rules_by here.asked.now in
    let wordless = c.is_wordless.ensures c.if-is_wordless.true r c.requires.stands in
    wordless_none r (reverse here.tried.now) c.args.choice wordless (line_at (g.T.Lines.lines here.lines.now) here.at.line) here.at.col
