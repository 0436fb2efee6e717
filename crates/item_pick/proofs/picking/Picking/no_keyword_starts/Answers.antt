use Rattle.item_pick.proofs.Common.{◌∙◌, [], sym, line_at, rules_by, is_free}
use Rattle.item_pick.proofs.QuietPlaceLaws.{no_keyword_character}
use Rattle.item_pick.proofs.picking.Picking.no_keyword_starts.Goals as goal

pub returns-then-has_no_word : goal.returns-then-has_no_word
returns-then-has_no_word g c _ =
    let here = c.args.self.now in
    c.has_no_word.ensures c.if-has_no_word.true (rules_by here.asked.now) c.args.choice (line_at (g.T.Lines.lines here.lines.now) here.at.line) c.args.col c.requires.wordless c.requires.number

pub returns-then-not-may_begin_word : goal.returns-then-not-may_begin_word
returns-then-not-may_begin_word g c _ =
    let here = c.args.self.now in
    let r = rules_by here.asked.now in
    no_keyword_character r (is_free r [] c.args.choice) (line_at (g.T.Lines.lines here.lines.now) here.at.line) c.args.col (sym c.may_begin_word.ensures ∙ c.if-not-may_begin_word.true)
