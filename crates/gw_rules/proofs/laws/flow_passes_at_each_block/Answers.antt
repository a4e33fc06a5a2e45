use Rattle.gw_rules.proofs.Passing.{flow_passes_at_each_block}
use Rattle.gw_rules.proofs.laws.flow_passes_at_each_block.Goals as goal

pub returns : goal.returns
returns c = flow_passes_at_each_block
