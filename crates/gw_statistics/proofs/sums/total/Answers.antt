use Rattle.std.proofs.Common.{◌≤◌, ◌^◌, pos, unsigned_abs, arith}
use Rattle.std.proofs.lemmas.Int.{ints, to_z-of_z}
use Rattle.std.proofs.lemmas.List.Elements.{All-get_or}
use Rattle.std.proofs.lemmas.List.Sums.{fold_more}
use Rattle.gw_statistics.proofs.sums.total.Goals as goal

pub loop-value-preserved : goal.loop-value-preserved
loop-value-preserved c =
    let small = All-get_or (λ x. unsigned_abs x ≤ 2 ^ 100) c.args.values.now c.loop-value.value-index (pos 0) (omega arith) c.requires.small in
    (grind (arith, ints, to_z-of_z, fold_more, small), omega (arith, ints, to_z-of_z, small), omega (arith, ints, to_z-of_z, small))
