use Rattle.std.proofs.Common.{◌∙◌, sym, ap, arith, [], ◌∷◌, length, length-append}
use Rattle.std.proofs.lemmas.Result.{err_from_is_err_and}
use Rattle.gw_rules.specs.PlusChecks.{plus_checks}
use Rattle.gw_code_flow.proofs.EachProcedure.{goes_on, stops, is_done}
use Rattle.gw_code_flow.proofs.check.check_procedures.Goals as goal

pub loop-i-preserved : goal.loop-i-preserved
loop-i-preserved c =
    let costs = c.loop-i.costs.items in
    let more = c.push.new.self.items in
    let cost = c.in_ok-cost.cost in
    let added = c.push.ensures.items in
    record {
      count = omega (arith, ap length added, length-append costs (cost ∷ []), c.loop-i.invariant.count);
      checks = goes_on c.args.parts.now costs c.as_slice-procedures.result.now c.loop-i.i c.index-procedures-i.result c.loop-i-test.true
          c.index-procedures-i.is more cost
          (rw c.as_slice.ensures.value at c.in_ok-cost.ensures.checks) (rw c.as_slice.ensures.value at c.in_ok-cost.ensures.cost) added
          ∙ c.loop-i.invariant.checks;
    }

pub returns-in_err-cost : goal.returns-in_err-cost
unfolding plus_checks
returns-in_err-cost c =
    let p = err_from_is_err_and c.from_residual.result c.from_residual.ensures.1 in
    let found = stops c.args.parts.now c.loop-i.costs.items c.as_slice-procedures.result.now c.loop-i.i c.index-procedures-i.result
    c.loop-i-test.true c.index-procedures-i.is _ (rw c.as_slice.ensures.value at c.in_err-cost.ensures.checks) in
    rw (p.1, p.2) (sym c.loop-i.invariant.checks ∙ found)

pub returns : goal.returns
unfolding plus_checks
returns c = sym c.loop-i.invariant.checks ∙ is_done c.args.parts.now c.loop-i.costs.items c.as_slice-procedures.result.now c.loop-i.i c.loop-i-test.false
