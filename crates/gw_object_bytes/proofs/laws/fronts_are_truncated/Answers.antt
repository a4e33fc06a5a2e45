use Rattle.gw_object_bytes.proofs.ObjectLaws.{front_refused}
use Rattle.gw_object_bytes.proofs.laws.fronts_are_truncated.Goals as goal

pub returns : goal.returns
returns c = front_refused
