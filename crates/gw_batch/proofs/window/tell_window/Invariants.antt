use Rattle.gw_batch.proofs.window.tell_window.Given as goal

abbrev pub ghosts-tell_window_by-R-Ledger : goal.ghosts-tell_window_by-R-Ledger
ghosts-tell_window_by-R-Ledger g a = record { name = a.rows.name; parts = a.rows.parts }

abbrev pub ghosts-tell_window_by-S-Ledger : goal.ghosts-tell_window_by-S-Ledger
ghosts-tell_window_by-S-Ledger g a = record { name = a.steps.name; parts = a.steps.parts }
