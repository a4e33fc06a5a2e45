use Rattle.gw_pool_tests.proofs.tests.services.wrong_of.Given as goal

abbrev pub ghosts-wrong_in_service-R-Ledger : goal.ghosts-wrong_in_service-R-Ledger
ghosts-wrong_in_service-R-Ledger g a = record { name = a.rows.name; parts = a.rows.parts }

abbrev pub ghosts-wrong_in_service-S-Ledger : goal.ghosts-wrong_in_service-S-Ledger
ghosts-wrong_in_service-S-Ledger g a = record { name = a.steps.name; parts = a.steps.parts }
