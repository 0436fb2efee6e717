use Rattle.item_pick.proofs.Common.{inr, place_at, rules_by, item_numbered}
use Rattle.item_pick.proofs.FutileLaws.{futile_after}
use Rattle.item_pick.proofs.TableLaws.{idle_quiet}
use Rattle.item_pick.proofs.tables.Tables.is_over.Goals as goal

pub returns-then-is_passed-clause-passed : goal.returns-then-is_passed-clause-passed
returns-then-is_passed-clause-passed c _ t l known within held =
    c.is_passed.ensures.passed c.if-is_passed.true (rules_by c.args._asked.now) t l known.line within held

pub returns-then-is_idle-clause-passed : goal.returns-then-is_idle-clause-passed
returns-then-is_idle-clause-passed c _ t l known within held =
    let asked = c.args._asked.now in
    let r = rules_by asked in
    let sought = c.args.search.now in
    let key = c.in-Some.ensures r t l known.line in
    inr (idle_quiet r (futile_after asked.parts.now.sets.now asked.budget) t (place_at l sought.at) c.in-Some.behind key.1 key.0 (item_numbered c.args.id)
    (c.is_idle.ensures c.if-is_idle.true r known.tables.firsts) sought.floor sought.looked held)

pub returns-in-Some-number_at-clause-passed : goal.returns-in-Some-number_at-clause-passed
returns-in-Some-number_at-clause-passed c e t l known within held =
    let r = rules_by c.args._asked.now in
    let sought = c.args.search.now in
    inr (c.fails_behind.ensures e r t l sought.at sought.floor known (c.in-Some-number_at.ensures r t l known.line) held)
