use Rattle.std.proofs.Common.{refl}
use Rattle.gw_object.specs.Grammar.{spelling}
use Rattle.gw_object_bytes.proofs.ObjectLaws.{only}
use Rattle.gw_object_bytes.proofs.laws.written_is_read.Goals as goal

pub returns : goal.returns
returns c p fits = only (spelling p) p (record { fits = fits; is = refl })
