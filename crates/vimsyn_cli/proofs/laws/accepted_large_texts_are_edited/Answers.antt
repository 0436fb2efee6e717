use Rattle.vimsyn_cli.proofs.KeptLaws.{kept_accepted}
use Rattle.vimsyn_cli.proofs.LargeLaws.{accepted_large}
use Rattle.vimsyn_cli.proofs.laws.accepted_large_texts_are_edited.Goals as goal

pub returns-clause-syntax : goal.returns-clause-syntax
returns-clause-syntax c = kept_accepted

pub returns-clause-edits : goal.returns-clause-edits
returns-clause-edits c = accepted_large
