use Rattle.paint_shift.proofs.AboutLine.{paintings_look_about}
use Rattle.paint_shift.proofs.a_painting_looks_about_its_line.Goals as goal

pub returns : goal.returns
returns c = paintings_look_about
