use Rattle.item_pick.proofs.line_known.LineKnown.known.Goals as goal

pub returns-then-at-run-clause-stands : goal.returns-then-at-run-clause-stands
returns-then-at-run-clause-stands c r t l stands = stands.runs c.args.item.0 c.in_ok-run.run'.now c.in_ok-run.ensures.some
