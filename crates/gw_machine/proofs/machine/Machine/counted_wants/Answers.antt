use Rattle.std.proofs.Common.{rules, ◌≡◌, ◌∙◌, ◌≤◌, ◌^◌, List, [], map, length, sym, ap, subst, arith}
use Rattle.std.proofs.lemmas.List.{length-map}
use Rattle.std.specs.List.{AllByRecursion}
use Rattle.gw_members.specs.declared.tx.Member.{Member}
use Rattle.gw_num.specs.Table.{at}
use Rattle.gw_step.specs.Residence.{occurrences}
use Rattle.gw_step.specs.State.{delay_list}
use Rattle.gw_machine.specs.Coherence.{IsRanked}
use Rattle.gw_machine.specs.Shown.{configuration_of}
use Rattle.gw_machine.specs.View.{state_of, member_number}
use Rattle.gw_machine.specs.Wants.{ArePast, next_of, nexts, want_count}
use Rattle.gw_machine.proofs.AtRest.{few-waits}
use Rattle.gw_machine.proofs.Changes.{delay_list-at}
use Rattle.gw_machine.proofs.Knowing.{known-of, occurrences-few}
use Rattle.gw_machine.proofs.machine.Machine.counted_wants.Goals as goal

pub loop-waiter-init : goal.loop-waiter-init
loop-waiter-init c =
    let m = c.args.self.now in
    let all : c.into_iter-waiter-iterator.result ≡ at [] m.waits.lists c.args.e =
    rw (← c.self.view_is) (c.into_iter-waiter-iterator.ensures.into_iter_gives ∙ c.waiters-waiter-items.ensures) in
    record {
      ranked = subst (AllByRecursion (IsRanked m.transactions)) (sym all)
          (rw (← c.self.view_is) (c.self.invariant.0.delay_lists c.args.e (rw (← c.self.view_is) at c.requires)));
      counted = λ b.
          let none : want_count b c.new-wants.result.items ≡ 0 = ap (want_count b) c.new-wants.ensures.items in
          let same = ap (λ (ms : List Member). occurrences b (map (next_of m.transactions.txs) (map member_number ms))) all in
          let here = ap (λ ns. occurrences b (map (next_of m.transactions.txs) ns)) (delay_list-at m c.args.e) in
          omega (arith, none, same, here);
      past = subst (ArePast m.entries) (sym c.new-wants.ensures.items) (λ i. omega arith);
    }

pub count_newcomer-requires : goal.count_newcomer-requires
count_newcomer-requires c =
    let m = c.args.self.now in
    let s = state_of m in
    let few : length (delay_list c.args.e s) ≤ 2 ^ 62 = rw (← c.self.view_is) (few-waits (configuration_of c.self.inside) c.self.invariant.0 c.args.e) in
    record {
      few = omega (
        arith,
        c.loop-waiter.invariant.counted c.get.result.now.next,
        occurrences-few c.get.result.now.next (nexts c.args.e s),
        length-map (delay_list c.args.e s) (next_of s.transactions),
        few,
      );
    }

pub returns : goal.returns
returns c =
    let s = state_of c.args.self.now in
    let ends : c.loop-waiter.waiter-iterator ≡ [] = search rules in
    known-of c.loop-waiter.wants.items c.args.e s (record {
      past = c.loop-waiter.invariant.past;
      counted = λ told b.
          let none = ap (λ (ms : List Member). occurrences b (map (next_of s.transactions) (map member_number ms))) ends in
          omega (arith, c.loop-waiter.invariant.counted b, none);
    })
