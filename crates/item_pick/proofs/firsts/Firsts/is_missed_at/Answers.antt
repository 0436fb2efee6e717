use Rattle.item_pick.proofs.Common.{IfOk-weaker, line_at, rules_by}
use Rattle.item_pick.proofs.TableLaws.{vain_is_missed}
use Rattle.item_pick.proofs.firsts.Firsts.is_missed_at.Goals as goal

pub returns-then-branch-clause-missed : goal.returns-then-branch-clause-missed
returns-then-branch-clause-missed c _ t l line =
    let r = rules_by c.args.asked.now in
    let by = c.args.by.now in
    vain_is_missed r (line_at t l) c.args.col c.in-Some.number (c.in-Some.ensures r t l line) by.item (c.in_ok-ask.ensures.told c.if-branch.true) by.pattern.now c.requires.first.first

pub returns-clause-missed : goal.returns-clause-missed
returns-clause-missed c =
    IfOk-weaker c.is_missed_by.result _ _ (λ missed told e t l line. told e (line_at t l) (c.number_after.ensures (rules_by c.args.asked.now) t l line)) c.is_missed_by.ensures.missed
