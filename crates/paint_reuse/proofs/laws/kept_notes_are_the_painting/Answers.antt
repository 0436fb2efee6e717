use Rattle.paint_reuse.proofs.NoteLaws.{kept_notes}
use Rattle.paint_reuse.proofs.laws.kept_notes_are_the_painting.Goals as goal

pub returns : goal.returns
returns c = kept_notes
