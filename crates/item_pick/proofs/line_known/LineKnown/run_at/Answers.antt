use Rattle.item_pick.proofs.Common.{rules_in}
use Rattle.item_pick.proofs.line_known.LineKnown.run_at.Goals as goal

pub returns-in-Some-clause-stands : goal.returns-in-Some-clause-stands
returns-in-Some-clause-stands c t l line =
    c.in-Some.ensures.stands (rules_in c.args.asked.now.parts.now c.args.asked.now.budget) t l line

pub returns-in-None-clause-stands : goal.returns-in-None-clause-stands
returns-in-None-clause-stands c t l line = c.fresh_run.ensures.stands t l
