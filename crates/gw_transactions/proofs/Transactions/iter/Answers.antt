use Rattle.std.proofs.Common.{◌+◌, ◌∙◌, map, sym, subst}
use Rattle.std.specs.Prelude.{IsPermutation}
use Rattle.std.proofs.lemmas.List.{length-map}
use Rattle.gw_transactions.specs.Transactions.{Population, listed_transactions}
use Rattle.gw_transactions.specs.Slots.{population_of, listed_in}
use Rattle.gw_transactions.proofs.Listing.{listed_slots}
use Rattle.gw_transactions.proofs.Populations.{live_is}
use Rattle.gw_transactions.proofs.Transactions.iter.Goals as goal

pub returns-clause-listed : goal.returns-clause-listed
returns-clause-listed c =
    let next = c.self.inside.created + 1 in
    subst (λ (p : Population). IsPermutation (listed_transactions p.txs) (map (listed_in c.self.inside.beside) c.iter.result)) c.self.view_is
    (subst (λ entries. IsPermutation
    (listed_transactions (population_of c.self.inside.slots c.self.inside.beside next c.self.inside.unset.last).txs)
    (map (listed_in c.self.inside.beside) entries)) (sym c.iter.ensures.rest)
    (listed_slots c.self.inside.beside next 0 0 c.self.inside.slots.slots c.self.invariant.0))

pub returns-clause-len : goal.returns-clause-len
returns-clause-len c = length-map c.iter.result (listed_in c.self.inside.beside) ∙ c.iter.ensures.len
    ∙ live_is c.self.inside c.self.invariant.0 _ c.self.view_is
