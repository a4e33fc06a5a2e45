use Rattle.std.proofs.Common.{◌≡◌, ◌∙◌, ◌+◌, ◌-◌, ◌*◌, sym, ap, arith}
use Rattle.gw_statistics.specs.Quantiles.{first_enough}
use Rattle.gw_statistics.proofs.Halving.{enough_here, enough_later, none_left}
use Rattle.gw_statistics.proofs.quantiles.runs_to_halve.Goals as goal

pub loop-all-preserved : goal.loop-all-preserved
loop-all-preserved c =
    let n = c.args.n in
    let all = c.loop-all.all in
    let later = enough_later n all (4 * n - all) (sym c.halves.ensures ∙ c.if-not-halves.true) (omega arith) in
    let one_less : 4 * n - all - 1 ≡ 4 * n - (all + 1) = omega arith in
    (omega arith, omega arith, c.loop-all.invariant.2 ∙ later ∙ ap (first_enough n (all + 1)) one_less)

pub returns-else-not-halves : goal.returns-else-not-halves
returns-else-not-halves c = grind (arith, enough_here)

pub returns-after-loop-all : goal.returns-after-loop-all
returns-after-loop-all c =
    let n = c.args.n in
    let all = c.loop-all.all in
    let none : 4 * n - all ≡ 0 = omega arith in
    record {
      value = sym (c.loop-all.invariant.2 ∙ ap (first_enough n all) none ∙ none_left n all);
      range = (omega arith, omega arith);
    }
