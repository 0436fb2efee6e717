use Rattle.vimsyn.proofs.main.Given as goal

-- the ledger of the run is the one that its blank opens
abbrev pub ghosts-status : goal.ghosts-status
ghosts-status a = record { name = a.blank.name; parts = a.blank.parts }
