use Rattle.std.proofs.Common.{◌≡◌, ◌∙◌, ap, replicate, arith}
use Rattle.gw_transactions.proofs.Transactions.parameters_for.Goals as goal

pub returns : goal.returns
returns c =
    let all : c.loop.counter ≡ c.args.copies = omega arith in
    c.loop.invariant.items
    ∙ ap (λ n. replicate n c.parameters-parameters.result.now) all
    ∙ ap (replicate c.args.copies) c.parameters-parameters.ensures
