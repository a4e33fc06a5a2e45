use Rattle.std.proofs.Common.{◌≡◌, ◌+◌, ◌≤◌, length}
use Rattle.std.specs.List.{AllByRecursion}
use Rattle.gw_members.specs.Chain.{all_behind, due, later}
use Rattle.gw_members.specs.declared.tx.Member.{Member}
use Rattle.gw_members.specs.declared.tx.Event.{Event}
use Rattle.gw_machine.specs.Coherence.{IsHeld, as_members}
use Rattle.gw_machine.proofs.clock.move_due.Given as goal

-- what is due still goes behind who has joined, and nothing else moves
abbrev pub invariant-loop-tx : goal.invariant-loop-tx
invariant-loop-tx l = record {
  current : all_behind (λ (m : Member). m.priority) (as_members l.transactions (due (λ (e : Event). e.time) l.time l.future_events.items))
      l.current_events.items
      ≡ all_behind (λ (m : Member). m.priority) (as_members l.transactions (due (λ (e : Event). e.time) l.time l.fn.future_events.items))
      l.fn.current_events.items;
  future : later (λ (e : Event). e.time) l.time l.future_events.items ≡ later (λ (e : Event). e.time) l.time l.fn.future_events.items;
  held : AllByRecursion (IsHeld l.transactions) l.future_events.items;
  room : length l.future_events.items ≤ l.current_events.room;
  left : l.fn.current_events.room + length l.future_events.items ≤ l.current_events.room + length l.fn.future_events.items;
}

abbrev pub decreases-loop-tx : goal.decreases-loop-tx
decreases-loop-tx l = length l.future_events.items
