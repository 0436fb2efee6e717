use Rattle.item_pick.proofs.Common.{rules, rules_by}
use Rattle.item_pick.proofs.TableLaws.{missed_after}
use Rattle.item_pick.proofs.firsts.Firsts.is_missed_by.Goals as goal

pub returns-in-Some-clause-missed : goal.returns-in-Some-clause-missed
returns-in-Some-clause-missed c =
    missed_after (rules_by c.args.asked.now) c.args.by.now.item c.args.by.now.pattern.now c.requires.first.first c.args.col c.in-Some.number (c.takes_first.ensures (search rules)) c.args.behind c.in-Some.is
    c.ask.result c.ask.ensures.told
