use Rattle.std.proofs.Common.{sym}
use Rattle.gw_field_bytes.proofs.Exact.{IsBytes-from_All}
use Rattle.gw_object_bytes.proofs.ObjectLaws.{found}
use Rattle.gw_object_bytes.proofs.laws.read_is_written.Goals as goal

pub returns : goal.returns
returns c bytes p are_bytes read = sym (found bytes p (IsBytes-from_All bytes are_bytes) read).is
