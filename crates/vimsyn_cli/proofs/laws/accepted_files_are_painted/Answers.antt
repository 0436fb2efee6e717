use Rattle.vimsyn_cli.proofs.SessionLaws.{accepted_edited, accepted_folded, accepted_pages, accepted_painted}
use Rattle.vimsyn_cli.proofs.laws.accepted_files_are_painted.Goals as goal

pub returns-clause-spans : goal.returns-clause-spans
returns-clause-spans c = accepted_painted

pub returns-clause-page : goal.returns-clause-page
returns-clause-page c = accepted_pages

pub returns-clause-folds : goal.returns-clause-folds
returns-clause-folds c = accepted_folded

pub returns-clause-edits : goal.returns-clause-edits
returns-clause-edits c = accepted_edited
