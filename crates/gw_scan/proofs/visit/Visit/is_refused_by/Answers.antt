use Rattle.std.proofs.Common.{refl}
use Rattle.gw_machine.specs.View.{state_of}
use Rattle.gw_scan.proofs.Trying.{other_way}
use Rattle.gw_scan.proofs.visit.Visit.is_refused_by.Goals as goal

pub returns-in-Some-clause-answer : goal.returns-in-Some-clause-answer
returns-in-Some-clause-answer c =
    let v = c.args.self.now in
    (rw c.in-Test.is (other_way v.verified.now v.tx.number v.transaction (state_of c.args.machine.now) c.in-Test.test _ c.in-Some.is), refl)
