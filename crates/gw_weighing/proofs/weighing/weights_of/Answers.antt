use Rattle.std.proofs.Common.{rules, ◌≡◌, List, ℕ, take, drop, length}
use Rattle.gw_object.specs.Entities.{chains_in}
use Rattle.gw_weighing.specs.Layout.{layout_of, place_count, places}
use Rattle.gw_weighing.specs.Rules.{rules_of}
use Rattle.gw_weighing.proofs.Bridge.{is_system}
use Rattle.gw_weighing.proofs.Found.{found_for}
use Rattle.gw_weighing.proofs.weighing.weights_of.Goals as goal

pub least_weights-requires-clause-system : goal.least_weights-requires-clause-system
least_weights-requires-clause-system c =
    let p = c.args.parts.now in
    let rules_are : c.in_ok-rules.rules.items ≡ rules_of (layout_of p) p = search rules in
    let counted_is : c.counted.result ≡ place_count (layout_of p) = search rules in
    let places_is : c.places.result ≡ places (layout_of p) = search rules in
    rw (rules_are, counted_is, places_is) (is_system p c.requires)

pub returns : goal.returns
returns c = λ spelled.
    let p = c.args.parts.now in
    let weights : List ℕ = c.in_ok-blocks.blocks.items in
    let found = found_for p spelled.0 spelled.1 spelled.2 weights (search rules) (search rules) (search rules) in
    let blocks_are : c.truncate.new.self.items ≡ take (length p.blocks) weights = search rules in
    let chains_are : c.in_ok-chains.chains.items ≡ take (chains_in p.entities) (drop (length p.blocks) weights) = search rules in
    rw (blocks_are, chains_are) found
