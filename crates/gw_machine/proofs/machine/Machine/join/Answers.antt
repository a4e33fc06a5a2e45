use Rattle.std.proofs.Common.{List, ap}
use Rattle.gw_entities.specs.declared.contents.Contents.{Contents}
use Rattle.gw_machine.specs.EntityTables.{states_of}
use Rattle.gw_machine.specs.View.{state_of}
use Rattle.gw_machine.proofs.Joining.{joined-table}
use Rattle.gw_machine.specs.Shown.{configuration_of}
use Rattle.gw_machine.proofs.machine.Machine.join.Goals as goal

pub returns-clause-state : goal.returns-clause-state
returns-clause-state c =
    rw (← c.self.view_is) (
    let m = (configuration_of c.self.inside) in
    ap (λ (queues : List Contents). record (state_of m) { entities = record (states_of m.entities) { queues = queues } })
    (joined-table m.entities.queues c.join_queue.new.self c.args.u.entity c.args.u.number c.join_queue.ensures.value c.join_queue.ensures.others))
