use Rattle.gw_scan.proofs.Subjects.{can_evaluate}
use Rattle.gw_scan.proofs.visit.Visit.value.Goals as goal

pub value-requires-clause-subject : goal.value-requires-clause-subject
value-requires-clause-subject c =
    rw c.active_subject-subject.ensures (can_evaluate c.args.self.now c.args.machine.now c.requires.visit)
