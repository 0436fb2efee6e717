use Rattle.vimsyn_cli.proofs.LargeLaws.{accepted_large_done}
use Rattle.vimsyn_cli.proofs.SessionLaws.{accepted_carried_out}
use Rattle.vimsyn_cli.proofs.laws.accepted_edits_are_carried_out.Goals as goal

pub returns-clause-script : goal.returns-clause-script
returns-clause-script c = accepted_carried_out

pub returns-clause-large : goal.returns-clause-large
returns-clause-large c = accepted_large_done
