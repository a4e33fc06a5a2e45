use Rattle.std.proofs.Common.{◌+◌, refl}
use Rattle.std.proofs.lemmas.Result.{err_from_is_err_and}
use Rattle.gw_rules.proofs.Broken.{goes_on}
use Rattle.gw_rules.specs.Flow.{flow_checks, checks_at}
use Rattle.gw_flow.specs.ViewedTable.{table_viewed}
use Rattle.gw_flow.proofs.Found.{found_here}
use Rattle.gw_flow.proofs.checking.check_blocks.Goals as goal

pub returns-in_err-check_block : goal.returns-in_err-check_block
unfolding flow_checks
returns-in_err-check_block c =
    let found = found_here (checks_at c.args.parts.now (table_viewed c.args.table)) (c.loop-i.i + 1) c.as_slice-blocks.result.now
    c.loop-i.i _ _ c.loop-i-test.true c.loop-i.invariant.left _ c.in_err-check_block.ensures.found in
    let p = err_from_is_err_and c.from_residual.result c.from_residual.ensures.1 in
    rw (p.1, p.2) (rw c.as_slice-blocks.ensures at found)

pub loop-i-preserved : goal.loop-i-preserved
loop-i-preserved c = record {
  left = goes_on (checks_at c.args.parts.now (table_viewed c.args.table)) (c.loop-i.i + 1) c.as_slice-blocks.result.now c.loop-i.i _ _
      c.loop-i-test.true c.loop-i.invariant.left (c.loop-i.i + 1 + 1) refl
      c.in_ok-check_block.ensures.found;
  pass = c.in_ok-check_block.ensures.pass;
}
