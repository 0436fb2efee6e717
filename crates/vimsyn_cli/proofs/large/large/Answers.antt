use Rattle.vimsyn_cli.proofs.large.large.Goals as goal

pub edit_painted-requires-clause-painted : goal.edit_painted-requires-clause-painted
edit_painted-requires-clause-painted g c = c.in-Ok.ensures.planned
