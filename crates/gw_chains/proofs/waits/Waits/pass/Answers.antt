use Rattle.std.proofs.Common.{◌+◌, [], length, arith, ap, sym, ◌∙◌}
use Rattle.gw_chains.specs.Waiting.{Walked}
use Rattle.gw_members.proofs.Each.{here}
use Rattle.gw_chains.proofs.Waiting.{list_of, lists_kept, waiting_kept, place_shown, place_after, rooms_kept}
use Rattle.gw_chains.proofs.waits.Waits.pass.Goals as goal

pub pass-requires : goal.pass-requires
pass-requires c =
    let s = list_of _ _ _ _ (ap (λ w. w.lists) c.self.view_is) c.requires.there c.index_mut.ensures.value in
    omega (arith, rw (← c.self.view_is) at c.requires.place, here (λ (l : Walked). l.place) 0 _ _ _ s, ap length (here (λ (l : Walked). l.members) [] _ _ _ s))

pub invariant_of-self : goal.invariant_of-self
invariant_of-self c = (
  omega arith,
  waiting_kept _ _ _ _ _ (ap (λ w. w.lists) c.self.view_is) c.requires.there c.index_mut.ensures.value c.pass.ensures.members _ c.self.invariant.1,
)

pub returns-clause-lists : goal.returns-clause-lists
returns-clause-lists c = lists_kept _ _ _ _ _ (ap (λ w. w.lists) c.self.view_is) c.requires.there c.index_mut.ensures.value c.pass.ensures.members

pub returns-clause-place : goal.returns-clause-place
returns-clause-place c =
    place_after _ _ _ _ _ (ap (λ w. w.lists) c.self.view_is) c.requires.there c.index_mut.ensures.value ∙ c.pass.ensures.place
    ∙ ap (λ n. n + 1) (sym (place_shown _ _ _ _ c.pass.new.self (ap (λ w. w.lists) c.self.view_is) c.requires.there
    c.index_mut.ensures.value _ (ap (λ w. w.places) c.self.view_is)))

pub returns-clause-room : goal.returns-clause-room
returns-clause-room c = rooms_kept _ _ _ _ _ (ap (λ w. w.lists) c.self.view_is) c.requires.there c.index_mut.ensures.value _ _
    (ap (λ w. w.rooms) c.self.view_is) c.pass.ensures.room
