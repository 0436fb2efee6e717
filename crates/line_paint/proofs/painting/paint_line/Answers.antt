use Rattle.line_paint.proofs.Common.{rules_in}
use Rattle.line_paint.proofs.painting.paint_line.Goals as goal

pub paint_line_with-requires-clause-memory : goal.paint_line_with-requires-clause-memory
paint_line_with-requires-clause-memory g c = c.new-memory.ensures (rules_in c.args.parts.now c.args.budget)
