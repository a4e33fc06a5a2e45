use Rattle.std.proofs.Common.{◌∙◌, ◌++◌, ◌∷◌, [], length, arith, ap, subst}
use Rattle.gw_alternatives.specs.Alternatives.{IsAlternative}
use Rattle.gw_alternatives.proofs.alternatives.models_of.Goals as goal

pub returns-clause-models : goal.returns-clause-models
returns-clause-models c =
    let a = c.in_ok-alternative.alternative in
    let b = c.in_ok-alternative-2.alternative in
    record {
      a = a;
      b = b;
      both = c.in_ok-add-2.ensures ∙ ap (λ xs. xs ++ b ∷ []) (c.in_ok-add.ensures ∙ ap (λ xs. xs ++ a ∷ []) c.new-alternatives.ensures.items);
      is_a = subst (λ name. IsAlternative name c.args.first.now c.args.count a) c.in_ok-name.ensures c.in_ok-alternative.ensures;
      is_b = subst (λ name. IsAlternative name c.args.second.now c.args.count b) c.in_ok-name-2.ensures c.in_ok-alternative-2.ensures;
    }

pub returns-clause-few : goal.returns-clause-few
returns-clause-few c =
    let a = c.in_ok-alternative.alternative in
    let b = c.in_ok-alternative-2.alternative in
    let both = c.in_ok-add-2.ensures ∙ ap (λ xs. xs ++ b ∷ []) (c.in_ok-add.ensures ∙ ap (λ xs. xs ++ a ∷ []) c.new-alternatives.ensures.items) in
    omega (arith, ap length both)
