use Rattle.std.proofs.Common.{◌∙◌, ap}
use Rattle.std.specs.Prelude.{option_map}
use Rattle.slab.specs.Slab.{get}
use Rattle.gw_members.specs.Chain.{first}
use Rattle.gw_chains.specs.Chunks.{all_of}
use Rattle.gw_chains.specs.Events.{Bucketed}
use Rattle.gw_members.specs.declared.tx.Event.{Event}
use Rattle.gw_chains.proofs.Leaving.{first_rank_of}
use Rattle.gw_chains.proofs.event_buckets.EventBuckets.first_time.Goals as goal

pub returns : goal.returns
returns c =
    c.first_rank.ensures
    ∙ first_rank_of (λ (e : Event). e.time) (get c.self.inside.links) (all_of c.self.inside.chunks.items) c.self.invariant.0.0
    ∙ ap (λ (v : Bucketed). option_map (λ (e : Event). e.time) (first v.items)) c.self.view_is
