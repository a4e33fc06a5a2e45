use Rattle.gw_experiment.specs.Answers.{view}
use Rattle.gw_shards.proofs.Answering.{of_experiment}
use Rattle.gw_shards.proofs.share.rows_of_share.Goals as goal

pub returns-in-Ok : goal.returns-in-Ok
returns-in-Ok g c =
    of_experiment c.args.text.now (view c.in-Ok.experiment) c.args.number c.args.shares c.share_of.result c.in-Ok.ensures.asked
    c.share_of.ensures
