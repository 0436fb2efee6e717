use Rattle.item_pick.proofs.Common.{arith, refl, item_numbered}
use Rattle.item_pick.proofs.SettledLaws.{covered_on}
use Rattle.item_pick.proofs.line_known.LineKnown.told_to.Goals as goal

pub returns-in-Some : goal.returns-in-Some
returns-in-Some c r t l line held col from below =
    let sought = c.args.search.now in
    let run = c.in-Some.run'.now in
    covered_on r t l sought.at sought.floor sought.looked c.len.result (item_numbered c.args.id) run held (line.runs c.args.id run c.in-Some.ensures.some) (c.if-covers.ensures refl)
    (omega (arith, line.keys.many, c.len.ensures)) col from below
