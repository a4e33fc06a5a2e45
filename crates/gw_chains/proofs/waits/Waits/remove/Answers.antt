use Rattle.std.proofs.Common.{◌-◌, [], length, arith, ap}
use Rattle.std.specs.Prelude.{remove}
use Rattle.gw_chains.specs.Waiting.{Walked}
use Rattle.gw_members.specs.Lists.{room_of}
use Rattle.gw_members.proofs.Each.{here, loses}
use Rattle.gw_chains.proofs.Waiting.{list_of, list_changed, list_fits, waiting_changed}
use Rattle.gw_chains.proofs.waits.Waits.remove.Goals as goal

pub remove-requires : goal.remove-requires
remove-requires c =
    omega (
      arith,
      rw (← c.self.view_is) at c.requires.place,
      ap length (here (λ (l : Walked). l.members) [] _ _ _ (list_of _ _ _ _ (ap (λ w. w.lists) c.self.view_is) c.requires.there c.index_mut.ensures.value)),
    )

pub overflow_sub-self : goal.overflow_sub-self
overflow_sub-self c = omega (arith, list_fits _ _ _ _ c.remove.new.self (ap (λ w. w.lists) c.self.view_is) c.requires.there c.index_mut.ensures.value)

pub invariant_of-self : goal.invariant_of-self
invariant_of-self c = (
  omega arith,
  omega (arith, waiting_changed _ _ _ _ c.remove.new.self (ap (λ w. w.lists) c.self.view_is) c.requires.there c.index_mut.ensures.value),
)

pub returns-clause-lists : goal.returns-clause-lists
returns-clause-lists c =
    list_changed _ _ _ _ _ (ap (λ w. w.lists) c.self.view_is) c.requires.there c.index_mut.ensures.value (λ ms. remove ms c.args.place) c.remove.ensures.members

pub returns-clause-room : goal.returns-clause-room
returns-clause-room c =
    rw (← c.self.view_is)
    (loses (λ (l : Walked). room_of c.self.inside.waiting l.room) (λ (l : Walked). room_of (c.self.inside.waiting - 1) l.room) 0
    (λ y. omega arith) _ _ _ c.remove.new.self
    (list_of _ _ _ _ (ap (λ w. w.lists) c.self.view_is) c.requires.there c.index_mut.ensures.value) (omega arith))
