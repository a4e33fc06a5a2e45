use Rattle.std.proofs.Common.{◌+◌, refl}
use Rattle.std.proofs.lemmas.Result.{err_from_is_err_and}
use Rattle.gw_rules.proofs.Broken.{goes_on, stops}
use Rattle.gw_rules.specs.Weights.{checks_at, weight_checks}
use Rattle.gw_weights.proofs.check.check_parts.Goals as goal

pub returns-in_err-check_block : goal.returns-in_err-check_block
unfolding weight_checks
returns-in_err-check_block c =
    let found = stops (checks_at c.args.parts.now) (c.loop-i.i + 1) c.as_slice-blocks.result.now c.loop-i.i _ _ c.loop-i-test.true
    c.loop-i.invariant _ c.in_err-check_block.ensures in
    let p = err_from_is_err_and c.from_residual.result c.from_residual.ensures.1 in
    rw (p.1, p.2) (rw c.as_slice-blocks.ensures at found)

pub loop-i-preserved : goal.loop-i-preserved
loop-i-preserved c =
    goes_on (checks_at c.args.parts.now) (c.loop-i.i + 1) c.as_slice-blocks.result.now c.loop-i.i _ _ c.loop-i-test.true c.loop-i.invariant
    (c.loop-i.i + 1 + 1) refl
    c.in_ok-check_block.ensures
