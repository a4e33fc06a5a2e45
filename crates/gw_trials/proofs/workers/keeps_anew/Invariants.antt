use Rattle.gw_trials.proofs.workers.keeps_anew.Given as goal

abbrev pub ghosts-keeps_all-R-Ledger : goal.ghosts-keeps_all-R-Ledger
ghosts-keeps_all-R-Ledger g a = record { name = a.rows.name; parts = a.rows.parts }

abbrev pub ghosts-keeps_all-S-Ledger : goal.ghosts-keeps_all-S-Ledger
ghosts-keeps_all-S-Ledger g a = record { name = a.steps.name; parts = a.steps.parts }
