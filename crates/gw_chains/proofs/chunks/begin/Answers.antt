use Rattle.std.proofs.Common.{◌∙◌, ◌++◌, [], ◌∷◌, ap}
use Rattle.gw_chains.specs.Chunks.{all_of, IsSpare}
use Rattle.gw_chains.proofs.Few.{All-last}
use Rattle.gw_chains.proofs.chunks.begin.Goals as goal

pub returns-clause-items : goal.returns-clause-items
returns-clause-items g c =
    let spare : IsSpare c.in-Some.chunk = All-last IsSpare c.args.spare.now.items c.pop.new.self.items c.in-Some.chunk c.in-Some.ensures.items c.requires.spare.1 in
    ap all_of (c.push_back_reserved-in-Some.ensures.items ∙ ap (λ xs. xs ++ c.push_back_reserved.new.self ∷ []) c.requires.empty)
    ∙ ap (λ xs. xs ++ []) (c.push_back_reserved.ensures.items ∙ ap (λ xs. xs ++ c.args.newcomer ∷ []) spare.none)
