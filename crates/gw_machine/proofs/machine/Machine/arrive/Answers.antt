use Rattle.std.proofs.Common.{refl, ap, ◌∙◌, List, map, None, Some, length, Option, ℕ, ◌≡◌, rules, arith}
use Rattle.std.proofs.lemmas.Int.{to_z-of_z}
use Rattle.gw_members.specs.Chain.{in_time}
use Rattle.gw_members.specs.declared.tx.Event.{Event}
use Rattle.gw_transactions.specs.Transactions.{LiveTransaction}
use Rattle.gw_num.specs.Table.{put}
use Rattle.gw_step.specs.State.{FutureEvent, with_one_more_at}
use Rattle.gw_step.specs.Changes.{newcomer}
use Rattle.gw_machine.specs.View.{state_of, lists_of, event_of}
use Rattle.gw_machine.proofs.Changes.{events-in_time, linked-arrived}
use Rattle.gw_machine.proofs.Handles.{carries-insert}
use Rattle.gw_machine.specs.Shown.{configuration_of}
use Rattle.gw_machine.proofs.Knowing.{known-apart, written-same, nowhere-apart}
use Rattle.gw_num.proofs.Tables.{at_past}
use Rattle.gw_machine.proofs.machine.Machine.arrive.Goals as goal

scheduled : (c : goal.After-raise) → c.schedule.new.self.items
    ≡ in_time (λ (e : Event). e.time) (record { tx = c.insert_with-tx.result; time = c.args.time }) (configuration_of c.self.inside).future_events.items
scheduled c = let fits = c.ranges.time in simp to_z-of_z at c.schedule.ensures.items

made : (c : goal.After-raise) → c.insert_with-tx.new.self.txs
    ≡ put None (configuration_of c.self.inside).transactions.txs (length (configuration_of c.self.inside).transactions.txs)
    (Some (newcomer c.args.block c.args.priority (state_of (configuration_of c.self.inside))))
made c = search rules

pub returns-clause-state : goal.returns-clause-state
returns-clause-state c =
    rw (← c.self.view_is) (
    let m = (configuration_of c.self.inside) in
    let s = state_of m in
    let after = λ (counts : List ℕ) (ts : List (Option LiveTransaction)) (es : List FutureEvent). record s
    { scheduled = counts; transactions = ts; lists = record (lists_of m) { future_events = es } } in
    let events = in_time (λ (e : FutureEvent). e.time) (record { time = c.args.time; number = length m.transactions.txs })
    (map event_of m.future_events.items) in
    ap (λ (counts : List ℕ). after counts c.insert_with-tx.new.self.txs (map event_of c.schedule.new.self.items)) c.raise.ensures
    ∙ ap (λ (es : List FutureEvent). after (with_one_more_at c.args.block m.scheduled) c.insert_with-tx.new.self.txs es)
    (ap (map event_of) (scheduled c) ∙ events-in_time c.insert_with-tx.result c.args.time m.future_events.items
    ∙ ap (λ (k : ℕ). in_time (λ (e : FutureEvent). e.time) (record { time = c.args.time; number = k })
    (map event_of m.future_events.items)) c.insert_with-tx.ensures.number)
    ∙ ap (λ (ts : List (Option LiveTransaction)). after (with_one_more_at c.args.block m.scheduled) ts events) (made c))

pub returns-clause-carries : goal.returns-clause-carries
returns-clause-carries c =
    rw (← c.self.view_is) (carries-insert (configuration_of c.self.inside).transactions c.insert_with-tx.new.self _
    c.insert_with-tx.result.place c.self.invariant.0.sound (omega arith) c.insert_with-tx.ensures.txs c.insert_with-tx.ensures.places
    c.insert_with-tx.ensures.last)

pub invariant_of-self : goal.invariant_of-self
invariant_of-self c = (
  linked-arrived (configuration_of c.self.inside) _ c.insert_with-tx.result _ c.args.block c.args.priority c.args.time
      c.insert_with-tx.ensures.txs c.insert_with-tx.ensures.places c.insert_with-tx.ensures.last c.insert_with-tx.ensures.number
      c.insert_with-tx.ensures.sound refl refl (scheduled c)
      (record { waits = refl; assemblies = refl; chains = refl; entities = refl; clock = refl })
      (rw (← c.self.view_is) at (returns-clause-state c)) (omega arith) c.self.invariant.0,
  known-apart c.self.inside.wants (length (configuration_of c.self.inside).transactions.txs) (state_of (configuration_of c.self.inside)) _
      (written-same (length (configuration_of c.self.inside).transactions.txs) (configuration_of c.self.inside).transactions.txs _ _ (made c)) refl refl
      (nowhere-apart (length (configuration_of c.self.inside).transactions.txs) (state_of (configuration_of c.self.inside))
      c.self.invariant.0.resides (at_past None (configuration_of c.self.inside).transactions.txs _ (omega arith))) c.self.invariant.1,
)
