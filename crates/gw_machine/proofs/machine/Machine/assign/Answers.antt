use Rattle.std.proofs.Common.{◌≡◌, refl, ap, ◌∙◌}
use Rattle.std.proofs.lemmas.Int.{to_z-of_z}
use Rattle.gw_transactions.specs.Transactions.{put_parameter}
use Rattle.gw_step.specs.State.{priority_of}
use Rattle.gw_machine.specs.View.{state_of}
use Rattle.gw_machine.proofs.Handles.{priority-assigned}
use Rattle.gw_machine.proofs.Changes.{Keeps, linked-assigned}
use Rattle.gw_machine.specs.Shown.{configuration_of}
use Rattle.gw_machine.proofs.Knowing.{known-nexts, assigned-next}
use Rattle.gw_machine.proofs.machine.Machine.assign.Goals as goal

set : (c : goal.After-assign) → c.assign.new.self.txs
    ≡ put_parameter c.args.tx.number c.args.parameter c.args.value (configuration_of c.self.inside).transactions.txs
set c = let fits = c.ranges.value in simp to_z-of_z at c.assign.ensures.txs

pub returns-clause-rank : goal.returns-clause-rank
returns-clause-rank c =
    rw (← c.self.view_is) (
    ap (λ ts. priority_of ts c.args.tx.number) (set c)
    ∙ priority-assigned c.args.tx.number c.args.parameter c.args.value (configuration_of c.self.inside).transactions.txs c.args.tx.number)

pub invariant_of-self : goal.invariant_of-self
invariant_of-self c =
    let keeps : Keeps (configuration_of c.self.inside) _ = record { waits = refl; assemblies = refl; chains = refl; entities = refl; clock = refl } in (
      linked-assigned (configuration_of c.self.inside) _ c.args.tx c.args.parameter c.args.value (set c) c.assign.ensures.rest.places
          c.assign.ensures.rest.last c.assign.ensures.rest.sound refl refl refl keeps
          (ap (λ ts. record (state_of (configuration_of c.self.inside)) { transactions = ts }) (set c)) c.self.invariant.0,
      known-nexts c.self.inside.wants (state_of (configuration_of c.self.inside)) _
          (assigned-next c.args.tx.number c.args.parameter c.args.value (configuration_of c.self.inside).transactions.txs
          c.assign.new.self.txs (set c)) refl refl c.self.invariant.1,
    )
