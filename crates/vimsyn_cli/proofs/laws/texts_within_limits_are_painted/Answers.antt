use Rattle.vimsyn_cli.proofs.SessionLaws.{within_painted}
use Rattle.vimsyn_cli.proofs.laws.texts_within_limits_are_painted.Goals as goal

pub returns : goal.returns
returns c = within_painted
