use Rattle.paint_shift.proofs.Elsewhere.{lines_are_painted_alike}
use Rattle.paint_shift.proofs.a_line_painted_elsewhere_is_painted_alike.Goals as goal

pub returns : goal.returns
returns c = lines_are_painted_alike
