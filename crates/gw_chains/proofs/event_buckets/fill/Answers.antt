use Rattle.std.proofs.Common.{◌∙◌, ap, sym, reverse, arith, ◌++◌}
use Rattle.slab.specs.Slab.{get}
use Rattle.gw_chains.specs.Buckets.{members_of}
use Rattle.gw_chains.proofs.Few.{reverse-last, come_in_order}
use Rattle.gw_chains.proofs.event_buckets.fill.Goals as goal

pub loop-event-preserved : goal.loop-event-preserved
loop-event-preserved c =
    let before = members_of (get c.loop-event.links) c.loop-event.row.items in
    let popped = ap reverse c.in-Some.ensures.items ∙ reverse-last c.pop.new.self.items c.in-Some.event in
    record {
      members = come_in_order c.in-Some.event before _ _ _ c.requires.order
          (sym (ap (λ ys. before ++ ys) popped) ∙ c.loop-event.invariant.members) c.insert_behind.ensures.gain.0;
      buckets = c.insert_behind.ensures.gain.1;
      many = omega (arith, c.insert_behind.ensures.gain.2, c.loop-event.invariant.many, c.in-Some.ensures.len);
      len = omega (arith, c.insert_behind.ensures.room, c.loop-event.invariant.len, c.in-Some.ensures.len);
      capacity = omega (arith, c.insert_behind.ensures.room, c.loop-event.invariant.capacity);
      slots = omega (arith, c.insert_behind.ensures.links, c.loop-event.invariant.slots, c.in-Some.ensures.len);
      links = c.insert_behind.ensures.links.1 ∙ c.loop-event.invariant.links;
    }
