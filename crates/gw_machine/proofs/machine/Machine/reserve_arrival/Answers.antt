use Rattle.std.proofs.Common.{refl, ap, ◌∙◌, List, map, Option}
use Rattle.gw_members.specs.declared.tx.Event.{Event}
use Rattle.gw_transactions.specs.Transactions.{LiveTransaction}
use Rattle.gw_machine.specs.View.{state_of, lists_of, event_of}
use Rattle.gw_machine.proofs.Changes.{linked-same}
use Rattle.gw_machine.specs.Shown.{configuration_of}
use Rattle.gw_machine.proofs.Knowing.{known-by}
use Rattle.gw_machine.proofs.machine.Machine.reserve_arrival.Goals as goal

pub invariant_of-self : goal.invariant_of-self
invariant_of-self c =
    let e = c.reserve.ensures in (
      linked-same (configuration_of c.self.inside) _ e.txs e.places e.last e.sound refl refl refl
          (record { waits = refl; assemblies = refl; chains = refl; entities = refl; clock = refl })
          (ap (λ (ts : List (Option LiveTransaction)). record (state_of (configuration_of c.self.inside)) { transactions = ts }) e.txs) c.self.invariant.0,
      known-by c.self.inside.wants (state_of (configuration_of c.self.inside)) _ e.txs refl refl c.self.invariant.1,
    )

pub invariant_of-self-in_err-reserve-2 : goal.invariant_of-self-in_err-reserve-2
invariant_of-self-in_err-reserve-2 c =
    let e = c.reserve.ensures in
    let fs = c.reserve-2.ensures.items in (
      linked-same (configuration_of c.self.inside) _ e.txs e.places e.last e.sound refl refl fs
          (record { waits = refl; assemblies = refl; chains = refl; entities = refl; clock = refl })
          (ap (λ (ts : List (Option LiveTransaction)). record (state_of (configuration_of c.self.inside)) {
            transactions = ts;
            lists =
                record (lists_of (configuration_of c.self.inside)) { future_events = map event_of c.reserve-2.new.self.items };
          }) e.txs
          ∙ ap (λ (es : List Event). record (state_of (configuration_of c.self.inside))
          { lists = record (lists_of (configuration_of c.self.inside)) { future_events = map event_of es } }) fs) c.self.invariant.0,
      known-by c.self.inside.wants (state_of (configuration_of c.self.inside)) _ e.txs refl refl c.self.invariant.1,
    )

pub invariant_of-self-2 : goal.invariant_of-self-2
invariant_of-self-2 c =
    let e = c.reserve.ensures in
    let fs = c.reserve-2.ensures.items in (
      linked-same (configuration_of c.self.inside) _ e.txs e.places e.last e.sound refl refl fs
          (record { waits = refl; assemblies = refl; chains = refl; entities = refl; clock = refl })
          (ap (λ (ts : List (Option LiveTransaction)). record (state_of (configuration_of c.self.inside)) {
            transactions = ts;
            lists =
                record (lists_of (configuration_of c.self.inside)) { future_events = map event_of c.reserve-2.new.self.items };
          }) e.txs
          ∙ ap (λ (es : List Event). record (state_of (configuration_of c.self.inside))
          { lists = record (lists_of (configuration_of c.self.inside)) { future_events = map event_of es } }) fs) c.self.invariant.0,
      known-by c.self.inside.wants (state_of (configuration_of c.self.inside)) _ e.txs refl refl c.self.invariant.1,
    )
