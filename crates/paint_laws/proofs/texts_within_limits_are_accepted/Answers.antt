use Rattle.paint_laws.proofs.LineCauses.{texts_within_limits_are_accepted}
use Rattle.paint_laws.proofs.texts_within_limits_are_accepted.Goals as goal

pub returns : goal.returns
returns c = texts_within_limits_are_accepted
