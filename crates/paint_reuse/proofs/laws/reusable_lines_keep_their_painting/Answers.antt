use Rattle.paint_reuse.proofs.ReuseLaw.{reusable_lines}
use Rattle.paint_reuse.proofs.laws.reusable_lines_keep_their_painting.Goals as goal

pub returns : goal.returns
returns c = reusable_lines
