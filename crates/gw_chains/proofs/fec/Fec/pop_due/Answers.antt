use Rattle.std.proofs.Common.{length, ap, arith}
use Rattle.std.specs.Vec.{vec_capacity}
use Rattle.gw_members.specs.Chain.{Chain}
use Rattle.gw_members.specs.declared.tx.Event.{Event}
use Rattle.gw_chains.proofs.Few.{left_in_order, room_left}
use Rattle.gw_chains.proofs.fec.Fec.pop_due.Goals as goal

pub invariant_of-self-2 : goal.invariant_of-self-2
invariant_of-self-2 c = (
  omega (arith, c.self.invariant.0, c.pop_due-2.ensures.len),
  left_in_order _ _ _ c.pop_due-2.ensures.rest c.self.invariant.1,
  λ some. c.self.invariant.2 (omega (arith, some, c.pop_due-2.ensures.len)),
  c.self.invariant.3,
)

pub returns-clause-room : goal.returns-clause-room
returns-clause-room c =
    rw (← ap (λ (v : Chain Event). v.room) c.self.view_is)
    (room_left c.self.inside.many (vec_capacity c.self.inside.few) (vec_capacity c.pop_due-2.new.few) (length c.self.inside.few.items)
    (length c.pop_due-2.new.few.items) c.pop_due-2.ensures.len c.pop_due-2.ensures.capacity)
