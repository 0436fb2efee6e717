use Rattle.region_ends.proofs.Common.{◌<◌, ◌∙◌, length, sym, arith}
use Rattle.region_ends.proofs.KeptEndLaws.{one_more, kept_below}
use Rattle.region_ends.proofs.keeping.+kept_end.Goals as goal

pub returns-else-i-len : goal.returns-else-i-len
returns-else-i-len t c =
    let stack = c.args.stack.now in
    let below = c.in-Some.below.now in
    let top = c.in-Some.top.now in
    let less : c.args.i < length below = omega (arith, one_more stack below top c.in-Some.ensures.0, c.requires.within, c.if-i-len.false, c.len.ensures.count) in
    c.kept_end.ensures ∙ sym (kept_below c.args.items.now stack below top c.args.i c.in-Some.ensures.0 less)
