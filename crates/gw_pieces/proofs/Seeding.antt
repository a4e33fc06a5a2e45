-- The seeds of one stream after the other.
use Rattle.std.proofs.Common.{◌≡◌, ◌∙◌, ◌<◌, ◌-◌, ◌+◌, ℕ, suc, List, [], ◌∷◌, ◌++◌, append_assoc, ap, arith}
use Rattle.gw_text.specs.declared.model.Statement.{Statement}
use Rattle.gw_pieces.specs.Settings.{seed_from, seeds_from}

-- the seed of the next stream comes
pub next_seed : (ss : List Statement) (stream most : ℕ) (before after total : List ℕ) → stream < most → after ≡ before
    ++ seed_from 0 ss stream ∷ [] → before ++ seeds_from ss stream (most - stream) ≡ total → after ++ seeds_from ss (stream + 1) (most - (stream + 1)) ≡ total
next_seed ss stream most before after total below grown so_far =
    let rest = seeds_from ss (stream + 1) (most - (stream + 1)) in
    let one : suc (most - (stream + 1)) ≡ most - stream = omega (arith, below) in
    ap (λ l. l ++ rest) grown
    ∙ append_assoc before (seed_from 0 ss stream ∷ []) rest
    ∙ ap (λ k. before ++ seeds_from ss stream k) one
    ∙ so_far
