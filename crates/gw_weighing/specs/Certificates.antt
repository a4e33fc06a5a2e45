-- Weights that pass in an object, and the least of them.
use Rattle.std.specs.Prelude.{◌≡◌, ℕ, ◌≤◌, List, length, All}
use Rattle.gw_object.specs.Entities.{chains_in}
use Rattle.gw_object.specs.Limits.{most_blocks, most_entities, most_return_rows}
use Rattle.gw_object.specs.Grammar.{HasSpelling}
use Rattle.gw_object.specs.declared.parts.Parts.{Parts}
use Rattle.gw_rules.specs.Weights.{WeightsPass}
use Rattle.gw_least_weights.specs.Rules.{IsWeight}
use Rattle.gw_least_weights.specs.Least.{EachAtMost}

-- there are no more blocks, entities and return rows than an object may have, and as many rows of user chains as there are user chains
pub record IsCounted (p : Parts) : Type 0 where
  pub blocks : length p.blocks ≤ most_blocks
  pub entities : length p.entities ≤ most_entities
  pub returns : length p.returns ≤ most_return_rows
  pub chain_states : length p.chain_states ≡ chains_in p.entities

-- an object with these weights of blocks and of user chains in place of its own
abbrev pub with_weights : Parts → List ℕ → List ℕ → Parts
with_weights p weights chains = record p { weights = weights; chain_weights = chains }

-- parts are those of an object, with some weights
abbrev pub MayBeSpelled : Parts → Type 0
MayBeSpelled p = (weights : List ℕ) × (chains : List ℕ) × HasSpelling (with_weights p weights chains)

-- but for weights these parts are the same
abbrev pub DifferInWeights : Parts → Parts → Type 0
DifferInWeights p q = with_weights p q.weights q.chain_weights ≡ q

-- an object's own weights are put aside for these: they may stand there, and pass
pub record AreCertificate (p : Parts) (weights chain_weights : List ℕ) : Type 0 where
  pub blocks : length weights ≡ length p.blocks
  pub chains : length chain_weights ≡ chains_in p.entities
  pub range : All IsWeight weights
  pub chain_range : All IsWeight chain_weights
  pub passes : WeightsPass (with_weights p weights chain_weights)

-- where any weights pass in an object, these do, and each is at most the other's
abbrev pub PassWhereAnyDo : Parts → List ℕ → List ℕ → Type 0
PassWhereAnyDo p weights chains =
    (us cs : List ℕ) → AreCertificate p us cs → WeightsPass (with_weights p weights chains) × EachAtMost weights us × EachAtMost chains cs

-- an object's own weights are so
abbrev pub HasLeastWeights : Parts → Type 0
HasLeastWeights p = PassWhereAnyDo p p.weights p.chain_weights

-- weights that may stand in an object, and the least that pass, where any do
pub record AreLeast (p : Parts) (weights chain_weights : List ℕ) : Type 0 where
  pub blocks : length weights ≡ length p.blocks
  pub chains : length chain_weights ≡ chains_in p.entities
  pub range : All IsWeight weights
  pub chain_range : All IsWeight chain_weights
  pub least : PassWhereAnyDo p weights chain_weights
