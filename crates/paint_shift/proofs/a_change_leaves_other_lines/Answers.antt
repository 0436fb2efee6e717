use Rattle.paint_shift.proofs.ChangeLaws.{changes_leave_other_lines}
use Rattle.paint_shift.proofs.a_change_leaves_other_lines.Goals as goal

pub returns : goal.returns
returns c = changes_leave_other_lines
