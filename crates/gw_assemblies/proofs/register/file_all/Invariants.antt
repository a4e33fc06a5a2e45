use Rattle.std.proofs.Common.{◌≡◌, length}
use Rattle.gw_assemblies.specs.Register.{assemblies_of, AreFiled}
use Rattle.gw_assemblies.proofs.register.file_all.Given as goal

abbrev pub invariant-loop-place : goal.invariant-loop-place
invariant-loop-place l = record {
  filed : AreFiled l.entries l.buckets l.place;
  standing : assemblies_of l.entries ≡ assemblies_of l.fn.entries;
  len : length l.entries ≡ length l.fn.entries;
  buckets : length l.buckets ≡ length l.fn.buckets;
}
