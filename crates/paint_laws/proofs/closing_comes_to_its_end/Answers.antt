use Rattle.paint_laws.proofs.ClosingLaws.{closing_ends}
use Rattle.paint_laws.proofs.closing_comes_to_its_end.Goals as goal

pub returns : goal.returns
returns c = closing_ends
