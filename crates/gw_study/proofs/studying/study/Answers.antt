use Rattle.std.proofs.Common.{refl}
use Rattle.gw_study.proofs.Tabling.{told}
use Rattle.gw_study.proofs.studying.study.Goals as goal

pub returns : goal.returns
returns g c = (
  refl,
  told c.args.spec.now c.args.request.now c.in_ok-results.results c.in_ok-results_text.field-0.items c.in_ok-results.ensures
      (rw c.count.ensures.value at c.in_ok-results_text.ensures),
)
