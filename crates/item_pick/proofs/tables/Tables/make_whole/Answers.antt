use Rattle.item_pick.proofs.Common.{rules_in}
use Rattle.item_pick.proofs.tables.Tables.make_whole.Goals as goal

pub returns : goal.returns
returns c =
    c.keep.ensures (rules_in c.args.asked.now.parts.now c.args.asked.now.budget) c.has_no_word-wordless.ensures.stands c.in_ok-row.ensures
