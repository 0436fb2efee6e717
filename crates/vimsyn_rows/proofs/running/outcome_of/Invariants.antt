use Rattle.vimsyn_rows.proofs.running.outcome_of.Given as goal

-- the ledger of the run is the one that its blank opens
abbrev pub ghosts-status_of : goal.ghosts-status_of
ghosts-status_of a = record { name = a.blank.name; parts = a.blank.parts }
