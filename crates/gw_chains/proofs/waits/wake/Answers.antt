use Rattle.std.proofs.Common.{rules, ◌≡◌, ◌∙◌, ap, sym, arith, List, length}
use Rattle.gw_members.specs.Chain.{all_behind, behind}
use Rattle.gw_members.specs.declared.tx.Member.{Member}
use Rattle.gw_chains.proofs.waits.wake.Goals as goal

pub loop-member-preserved : goal.loop-member-preserved
loop-member-preserved c = record {
  woken =
      let joined : c.insert_behind.new.self.items ≡ behind (λ (m : Member). m.priority) c.in-Some.member c.loop-member.cec.items = search rules in
      ap (all_behind (λ (m : Member). m.priority) c.pop_front.new.self.items) joined
      ∙ sym (ap (λ (ys : List Member). all_behind (λ (m : Member). m.priority) ys c.loop-member.cec.items) c.in-Some.ensures.items)
      ∙ c.loop-member.invariant.woken;
  room = omega (arith, ap length c.in-Some.ensures.items, c.loop-member.invariant.room, c.insert_behind.ensures.room);
  left = omega (arith, ap length c.in-Some.ensures.items, c.loop-member.invariant.left, c.insert_behind.ensures.room);
  capacity = c.in-Some.ensures.capacity ∙ c.loop-member.invariant.capacity;
}
