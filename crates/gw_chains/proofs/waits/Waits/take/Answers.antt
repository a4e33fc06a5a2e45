use Rattle.std.proofs.Common.{◌-◌, [], length, arith, ap, sym, ◌∙◌}
use Rattle.std.specs.Prelude.{remove}
use Rattle.gw_num.specs.Table.{at}
use Rattle.gw_chains.specs.Waiting.{Walked}
use Rattle.gw_members.specs.Lists.{room_of}
use Rattle.gw_members.proofs.Each.{here, loses}
use Rattle.gw_chains.proofs.Waiting.{list_of, list_changed, list_fits, waiting_changed, place_shown, place_after}
use Rattle.gw_chains.proofs.waits.Waits.take.Goals as goal

pub take-requires : goal.take-requires
take-requires c =
    let s = list_of _ _ _ _ (ap (λ w. w.lists) c.self.view_is) c.requires.there c.index_mut.ensures.value in
    omega (arith, rw (← c.self.view_is) at c.requires.place, here (λ (l : Walked). l.place) 0 _ _ _ s, ap length (here (λ (l : Walked). l.members) [] _ _ _ s))

pub overflow_sub-self : goal.overflow_sub-self
overflow_sub-self c = omega (arith, list_fits _ _ _ _ c.take.new.self (ap (λ w. w.lists) c.self.view_is) c.requires.there c.index_mut.ensures.value)

pub invariant_of-self : goal.invariant_of-self
invariant_of-self c = (
  omega arith,
  omega (arith, waiting_changed _ _ _ _ c.take.new.self (ap (λ w. w.lists) c.self.view_is) c.requires.there c.index_mut.ensures.value),
)

pub returns-clause-lists : goal.returns-clause-lists
returns-clause-lists c =
    list_changed _ _ _ _ _ (ap (λ w. w.lists) c.self.view_is) c.requires.there c.index_mut.ensures.value
    (λ ms. remove ms (at 0 c.args.self.now.places c.args.entity))
    (c.take.ensures.members ∙ ap (remove c.index_mut.result.now.members)
    (sym (place_shown _ _ _ _ c.take.new.self (ap (λ w. w.lists) c.self.view_is) c.requires.there c.index_mut.ensures.value _
    (ap (λ w. w.places) c.self.view_is))))

pub returns-clause-place : goal.returns-clause-place
returns-clause-place c =
    place_after _ _ _ _ _ (ap (λ w. w.lists) c.self.view_is) c.requires.there c.index_mut.ensures.value ∙ c.take.ensures.place
    ∙ sym (place_shown _ _ _ _ c.take.new.self (ap (λ w. w.lists) c.self.view_is) c.requires.there c.index_mut.ensures.value _
    (ap (λ w. w.places) c.self.view_is))

pub returns-clause-room : goal.returns-clause-room
returns-clause-room c =
    rw (← c.self.view_is)
    (loses (λ (l : Walked). room_of c.self.inside.waiting l.room) (λ (l : Walked). room_of (c.self.inside.waiting - 1) l.room) 0
    (λ y. omega arith) _ _ _ c.take.new.self
    (list_of _ _ _ _ (ap (λ w. w.lists) c.self.view_is) c.requires.there c.index_mut.ensures.value) (omega arith))
