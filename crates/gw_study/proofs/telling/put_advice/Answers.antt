use Rattle.std.proofs.Common.{codes}
use Rattle.std.specs.Fmt.{decimal}
use Rattle.std.proofs.lemmas.Result.{IfOk-equal}
use Rattle.gw_study.specs.Table.{amount, advice}
use Rattle.gw_study.proofs.Joining.{advised}
use Rattle.gw_study.proofs.telling.put_advice.Goals as goal

pub returns : goal.returns
unfolding advice
returns c =
    IfOk-equal c.put.result _ _ _ c.put.ensures
    (advised _ _ _ (amount c.args.mean.now) (codes ": try --from ") (decimal c.args.suggested) (codes "\n")
    c.in_ok-put_amount.ensures c.in_ok-put_number.ensures)
