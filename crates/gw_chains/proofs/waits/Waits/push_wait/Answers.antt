use Rattle.std.proofs.Common.{◌+◌, arith, ap}
use Rattle.std.proofs.lemmas.Int.{to_z-of_z}
use Rattle.gw_members.specs.Chain.{behind}
use Rattle.gw_chains.specs.Waiting.{Walked}
use Rattle.gw_members.specs.Lists.{room_of}
use Rattle.gw_members.specs.declared.tx.Member.{Member}
use Rattle.gw_members.proofs.Each.{here, total, loses}
use Rattle.gw_chains.proofs.Waiting.{list_of, list_changed}
use Rattle.gw_chains.proofs.waits.Waits.push_wait.Goals as goal

pub insert_behind-requires : goal.insert_behind-requires
insert_behind-requires c =
    omega (
      arith,
      rw (← c.self.view_is) at c.requires.room,
      here (λ (l : Walked). room_of c.self.inside.waiting l.room) 0 _ _ _
          (list_of _ _ _ _ (ap (λ w. w.lists) c.self.view_is) c.requires.there c.index_mut.ensures.value),
    )

pub overflow_add-self : goal.overflow_add-self
overflow_add-self c =
    omega (
      arith,
      rw (← c.self.view_is) at c.requires.room,
      here (λ (l : Walked). room_of c.self.inside.waiting l.room) 0 _ _ _
          (list_of _ _ _ _ (ap (λ w. w.lists) c.self.view_is) c.requires.there c.index_mut.ensures.value),
    )

pub invariant_of-self : goal.invariant_of-self
invariant_of-self c =
    let s = list_of _ _ _ _ (ap (λ w. w.lists) c.self.view_is) c.requires.there c.index_mut.ensures.value in (
      omega (arith, rw (← c.self.view_is) at c.requires.room, here (λ (l : Walked). room_of c.self.inside.waiting l.room) 0 _ _ _ s),
      omega (arith, total (λ (l : Walked). l.members) _ _ _ c.insert_behind.new.self s),
    )

pub returns-clause-lists : goal.returns-clause-lists
returns-clause-lists c =
    let fits = c.ranges.priority in
    list_changed _ _ _ _ _ (ap (λ w. w.lists) c.self.view_is) c.requires.there c.index_mut.ensures.value
    (behind (λ (m : Member). m.priority) (record { tx = c.args.tx; priority = c.args.priority })) (simp to_z-of_z at c.insert_behind.ensures.members)

pub returns-clause-room : goal.returns-clause-room
returns-clause-room c =
    rw (← c.self.view_is)
    (loses (λ (l : Walked). room_of c.self.inside.waiting l.room) (λ (l : Walked). room_of (c.self.inside.waiting + 1) l.room) 1
    (λ y. omega arith) _ _ _ c.insert_behind.new.self
    (list_of _ _ _ _ (ap (λ w. w.lists) c.self.view_is) c.requires.there c.index_mut.ensures.value) (omega arith))
