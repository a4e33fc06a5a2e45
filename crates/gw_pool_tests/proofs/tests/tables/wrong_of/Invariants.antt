use Rattle.gw_pool_tests.proofs.tests.tables.wrong_of.Given as goal

abbrev pub ghosts-wrong_in_table-R-Ledger : goal.ghosts-wrong_in_table-R-Ledger
ghosts-wrong_in_table-R-Ledger g a = record { name = a.rows.name; parts = a.rows.parts }

abbrev pub ghosts-wrong_in_table-S-Ledger : goal.ghosts-wrong_in_table-S-Ledger
ghosts-wrong_in_table-S-Ledger g a = record { name = a.steps.name; parts = a.steps.parts }
