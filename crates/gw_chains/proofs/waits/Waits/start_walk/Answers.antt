use Rattle.std.proofs.Common.{arith, ap, ◌∙◌}
use Rattle.gw_chains.proofs.Waiting.{lists_kept, waiting_kept, place_after, rooms_kept}
use Rattle.gw_chains.proofs.waits.Waits.start_walk.Goals as goal

pub invariant_of-self : goal.invariant_of-self
invariant_of-self c = (
  omega arith,
  waiting_kept _ _ _ _ _ (ap (λ w. w.lists) c.self.view_is) c.requires c.index_mut.ensures.value c.start_walk.ensures.members _ c.self.invariant.1,
)

pub returns-clause-lists : goal.returns-clause-lists
returns-clause-lists c = lists_kept _ _ _ _ _ (ap (λ w. w.lists) c.self.view_is) c.requires c.index_mut.ensures.value c.start_walk.ensures.members

pub returns-clause-place : goal.returns-clause-place
returns-clause-place c = place_after _ _ _ _ _ (ap (λ w. w.lists) c.self.view_is) c.requires c.index_mut.ensures.value ∙ c.start_walk.ensures.place

pub returns-clause-room : goal.returns-clause-room
returns-clause-room c = rooms_kept _ _ _ _ _ (ap (λ w. w.lists) c.self.view_is) c.requires c.index_mut.ensures.value _ _
    (ap (λ w. w.rooms) c.self.view_is) c.start_walk.ensures.room
