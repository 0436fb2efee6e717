use Rattle.vimsyn_cli.proofs.SeenLaws.{accepted_seen, accepted_seen_pages, refused_alike}
use Rattle.vimsyn_cli.proofs.laws.accepted_files_are_seen.Goals as goal

pub returns-clause-spans : goal.returns-clause-spans
returns-clause-spans c = accepted_seen

pub returns-clause-page : goal.returns-clause-page
returns-clause-page c = accepted_seen_pages

pub returns-clause-refusals : goal.returns-clause-refusals
returns-clause-refusals c = refused_alike
