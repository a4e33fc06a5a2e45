use Rattle.gw_headline.proofs.Safely.{safely, verified_objects_run_safely, services_run_safely}
use Rattle.gw_headline.proofs.laws.verified_objects_run_without_an_error_stop_alone_and_under_every_schedule.Goals as goal

pub returns-clause-jobs : goal.returns-clause-jobs
returns-clause-jobs c = safely

pub returns-clause-rows : goal.returns-clause-rows
returns-clause-rows c = verified_objects_run_safely

pub returns-clause-services : goal.returns-clause-services
returns-clause-services c = services_run_safely
