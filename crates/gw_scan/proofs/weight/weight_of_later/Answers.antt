use Rattle.std.proofs.Common.{sym, subst, ap, arith}
use Rattle.std.specs.Prelude.{sum_by}
use Rattle.std.specs.List.{AllByRecursion}
use Rattle.std.proofs.lemmas.List.Sorted.{sum_by-IsPermutation, All-permutation}
use Rattle.std.proofs.lemmas.List.Elements.{recursion_from_All, All-from_recursion}
use Rattle.gw_members.specs.Chain.{Chain}
use Rattle.gw_members.specs.declared.tx.Event.{Event}
use Rattle.gw_machine.specs.Coherence.{IsHeld}
use Rattle.gw_scan.specs.Weighing.{later_weight}
use Rattle.gw_scan.proofs.weight.weight_of_later.Goals as goal

pub loop-event-init : goal.loop-event-init
loop-event-init c =
    let m = c.args.machine.now in
    let items = c.future_events.result.now.items in
    let all = c.iter-event-items.result in
    let same = c.iter-event-items.ensures in
    let is = c.into_iter-event-iterator.ensures.into_iter_gives in
    let held = IsHeld m.transactions in
    let weights = later_weight c.args.parts.now m.transactions.txs m.clock in
    record {
      held = subst (AllByRecursion held) (sym is)
          (recursion_from_All held all (All-permutation held items all same (All-from_recursion held items c.future_events.ensures.held)));
      sum = omega (
        arith,
        sum_by-IsPermutation weights items all same,
        ap (sum_by weights) is,
        ap (λ (chain : Chain Event). sum_by weights chain.items) c.future_events.ensures.events,
      );
    }
