use Rattle.gw_object_bytes.proofs.ObjectLaws.{apart}
use Rattle.gw_object_bytes.proofs.laws.one_spelling_and_no_prefix.Goals as goal

pub returns : goal.returns
returns c = apart
