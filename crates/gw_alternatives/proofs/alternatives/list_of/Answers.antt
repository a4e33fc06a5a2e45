use Rattle.std.proofs.Common.{◌∙◌, ◌++◌, ◌∷◌, [], ap}
use Rattle.gw_alternatives.proofs.alternatives.list_of.Goals as goal

pub returns : goal.returns
returns c =
    let a = c.nameless-alternative.result in
    (a, c.in_ok-add.ensures ∙ ap (λ xs. xs ++ a ∷ []) c.new-alternatives.ensures.items, c.nameless-alternative.ensures.0, c.nameless-alternative.ensures.1)
