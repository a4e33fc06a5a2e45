use Rattle.std.proofs.Common.{◌++◌, ℕ, Option, codes, ap, ◌∙◌}
use Rattle.std.specs.Option.{unwrap_or}
use Rattle.std.specs.Fmt.{decimal}
use Rattle.std.proofs.lemmas.Result.{IfOk-equal}
use Rattle.gw_trace.proofs.line.put_heir.Goals as goal

pub returns : goal.returns
returns c =
    let out = c.args.out.now.items in
    let words = codes ", handed over to " in
    IfOk-equal c.put_number.result _ _ _ c.put_number.ensures
    (ap (λ (n : ℕ). out ++ (words ++ decimal n)) (c.unwrap_or.ensures ∙ ap (λ (o : Option ℕ). unwrap_or o 0) c.owner.ensures))
