use Rattle.gw_pool.proofs.threads.+run_from.Given as goal

abbrev pub decreases-run_from : goal.decreases-run_from
decreases-run_from g l = l.count
