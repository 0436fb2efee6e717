use Rattle.vimsyn_cli.proofs.SessionLaws.{accepted_counted}
use Rattle.vimsyn_cli.proofs.laws.accepted_syntax_files_are_counted.Goals as goal

pub returns : goal.returns
returns c = accepted_counted
