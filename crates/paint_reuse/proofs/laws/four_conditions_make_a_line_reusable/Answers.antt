use Rattle.paint_reuse.proofs.ReusableIs.{reusable_so}
use Rattle.paint_reuse.proofs.laws.four_conditions_make_a_line_reusable.Goals as goal

pub returns : goal.returns
returns c = reusable_so
