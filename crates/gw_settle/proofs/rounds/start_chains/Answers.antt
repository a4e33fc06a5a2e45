use Rattle.std.proofs.Common.{rules, ◌≡◌, ◌∷◌, ◌++◌, [], None, ap, ◌∙◌}
use Rattle.std.proofs.lemmas.List.{replicate_more}
use Rattle.gw_settle.proofs.rounds.start_chains.Goals as goal

pub loop-preserved : goal.loop-preserved
loop-preserved c =
    let more : c.push.new.self.items ≡ c.loop.rows.items ++ None ∷ [] = search rules in
    more ∙ ap (λ rows. rows ++ None ∷ []) c.loop.invariant ∙ replicate_more c.loop.counter None
