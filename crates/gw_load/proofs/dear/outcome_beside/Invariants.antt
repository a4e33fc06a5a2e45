use Rattle.gw_load.proofs.dear.outcome_beside.Given as goal

abbrev pub ghosts-outcome_by-R-Ledger : goal.ghosts-outcome_by-R-Ledger
ghosts-outcome_by-R-Ledger g a = record { name = a.rows.name; parts = a.rows.parts }

abbrev pub ghosts-outcome_by-S-Ledger : goal.ghosts-outcome_by-S-Ledger
ghosts-outcome_by-S-Ledger g a = record { name = a.steps.name; parts = a.steps.parts }
