use Rattle.std.proofs.Common.{◌++◌, subst}
use Rattle.std.specs.Prelude.{IsPermutation}
use Rattle.gw_members.specs.Chain.{Chain}
use Rattle.gw_members.specs.declared.tx.Event.{Event}
use Rattle.gw_plain_chains.proofs.Merging.{merged_members}
use Rattle.gw_plain_chains.proofs.plain.Fec.iter.Goals as goal

pub returns : goal.returns
returns c =
    rw (c.iter.ensures.rest, c.iter-2.ensures.rest)
    (subst (λ (chain : Chain Event). IsPermutation chain.items (c.self.inside.settled.items ++ c.self.inside.recent.items)) c.self.view_is
    (merged_members (λ (e : Event). e.time) c.self.inside.settled.items c.self.inside.recent.items))
