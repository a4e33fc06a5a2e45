use Rattle.gw_object_bytes.proofs.ObjectLaws.{more_refused}
use Rattle.gw_object_bytes.proofs.laws.more_is_trailing.Goals as goal

pub returns : goal.returns
returns c = more_refused
