use Rattle.item_pick.proofs.line_known.LineKnown.is_barren.Goals as goal

pub returns : goal.returns
returns c e r t l line = line.barren c.args.id (c.has.ensures.marked e)
