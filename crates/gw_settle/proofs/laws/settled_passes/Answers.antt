use Rattle.gw_settle.specs.Rounds.{as_table}
use Rattle.gw_settle.proofs.Complete.{settled_passes}
use Rattle.gw_settle.proofs.laws.settled_passes.Goals as goal

pub returns : goal.returns
returns c = λ p rows t none kept settled by pass. settled_passes p (as_table p rows) t none kept.good settled.each by pass
