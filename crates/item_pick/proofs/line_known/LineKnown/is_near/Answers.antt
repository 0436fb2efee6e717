use Rattle.item_pick.proofs.Common.{subst, HoldsLines}
use Rattle.item_pick.proofs.line_known.LineKnown.is_near.Goals as goal

pub returns : goal.returns
returns c e r t l line =
    let near = line.near c.args.id (c.has.ensures.marked c.if-not-has.false) in
    near.1 c.args.looked (subst (HoldsLines c.args.looked) near.0 (c.holds.ensures e))
