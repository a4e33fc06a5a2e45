use Rattle.gw_planner.proofs.Summaries as summaries
use Rattle.gw_planner.proofs.laws.summaries_are_studies.Goals as goal

pub returns : goal.returns
returns c = summaries.summaries_are_studies
