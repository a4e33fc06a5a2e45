use Rattle.std.proofs.Common.{refl}
use Rattle.gw_assemblies.proofs.Filing.{filed-none, length-empty}
use Rattle.gw_assemblies.proofs.register.file_all.Goals as goal

pub loop-place-init : goal.loop-place-init
loop-place-init c = record {
  filed = rw c.clear.ensures (filed-none c.args.entries.now _);
  standing = refl;
  len = refl;
  buckets = rw c.clear.ensures (length-empty _);
}
