use Rattle.gw_load.proofs.round.run_round.Given as goal

abbrev pub ghosts-run_round_by-R-Ledger : goal.ghosts-run_round_by-R-Ledger
ghosts-run_round_by-R-Ledger g a = record { name = a.rows.name; parts = a.rows.parts }

abbrev pub ghosts-run_round_by-S-Ledger : goal.ghosts-run_round_by-S-Ledger
ghosts-run_round_by-S-Ledger g a = record { name = a.steps.name; parts = a.steps.parts }
