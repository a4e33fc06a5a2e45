-- Operands may be evaluated for the active transaction.
use Rattle.std.proofs.Common.{arith}
use Rattle.gw_machine.specs.Configuration.{Configuration}
use Rattle.gw_machine.specs.Evaluating.{CanEvaluate, subject_of}
use Rattle.gw_scan.specs.Visiting.{IsVisit}
use Rattle.gw_scan.specs.declared.visit.Visit.{Visit}
use Rattle.gw_step.proofs.Attributes.{number_below}
use Rattle.gw_step.proofs.Within.{mark_from}

pub can_evaluate : (v : Visit) (m : Configuration) → IsVisit v m → CanEvaluate m (subject_of v.tx v.transaction)
can_evaluate v m a =
    let w = a.steady.within in
    record {
      readable = record {
        entities = w.whole.entity_tables;
        entries = omega (arith, w.entries, a.few);
        clock = w.clock;
      };
      held = a.held;
      number = omega (arith, number_below m.transactions.txs v.tx.number v.transaction a.found, w.made, a.few);
      mark = mark_from m.transactions.txs v.tx.number v.transaction w.marked a.found;
    }
