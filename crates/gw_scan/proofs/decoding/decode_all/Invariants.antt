use Rattle.std.proofs.Common.{◌≡◌, map, take}
use Rattle.gw_scan.specs.Origins.{origin}
use Rattle.gw_scan.proofs.decoding.decode_all.Given as goal

abbrev pub invariant-loop-block : goal.invariant-loop-block
invariant-loop-block l = map origin l.table.items ≡ take l.block-index l.blocks
