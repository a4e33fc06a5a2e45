use Rattle.std.proofs.Common.{arith, inl}
use Rattle.slab.specs.Slab.{get}
use Rattle.gw_chains.proofs.Walking.{some_left}
use Rattle.gw_chains.proofs.delay_list.DelayList.pass.Goals as goal

pub advance-requires-clause-there : goal.advance-requires-clause-there
advance-requires-clause-there c =
    let asked = rw (← c.self.view_is) at c.requires in
    some_left (get c.self.inside.links) c.self.inside.buckets.items c.begin_walk-walk.result c.begin_walk-walk.ensures.walk
    (omega (arith, asked, c.begin_walk-walk.ensures.place, c.self.invariant.0.1, c.self.invariant.0.2))

pub invariant_of-self : goal.invariant_of-self
invariant_of-self c = (c.self.invariant.0, inl c.advance.ensures.walk)
