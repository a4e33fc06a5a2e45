use Rattle.std.proofs.Common.{inr}
use Rattle.gw_chains.proofs.Spotting.{place_start}
use Rattle.gw_chains.proofs.delay_list.DelayList.start_walk.Goals as goal

pub invariant_of-self : goal.invariant_of-self
invariant_of-self c = (c.self.invariant.0, inr c.walk_to_begin-self-inside.ensures)

pub returns-clause-place : goal.returns-clause-place
returns-clause-place c =
    place_start c.self.inside.buckets.items c.walk_to_begin-self-inside.result.spot c.walk_to_begin-self-inside.ensures.0 c.walk_to_begin-self-inside.ensures.1
