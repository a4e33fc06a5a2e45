use Rattle.gw_shards.proofs.Joining as joining
use Rattle.gw_shards.proofs.laws.shards_join.Goals as goal

pub returns : goal.returns
returns c = joining.shards_join
