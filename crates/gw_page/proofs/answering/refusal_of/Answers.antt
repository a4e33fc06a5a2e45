use Rattle.std.proofs.Common.{inr, refl, subst}
use Rattle.gw_explain.specs.Explanation.{IsExplained}
use Rattle.gw_page.proofs.answering.refusal_of.Goals as goal

pub returns-then-explained-eq-ENDED : goal.returns-then-explained-eq-ENDED
returns-then-explained-eq-ENDED c =
    let explained = c.in_ok-explained.explained in
    inr (refl, (explained.text.items, subst (λ s. IsExplained c.args.text.now explained.text.items s) c.if-explained-eq-ENDED.true c.in_ok-explained.ensures))
