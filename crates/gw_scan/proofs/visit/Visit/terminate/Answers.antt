use Rattle.std.proofs.Common.{[]}
use Rattle.gw_scan.proofs.Meeting.{first_may}
use Rattle.gw_scan.proofs.visit.Visit.terminate.Goals as goal

pub value-requires-clause-operand : goal.value-requires-clause-operand
value-requires-clause-operand c = first_may c.args.self.now.verified.now _ c.args.by [] c.requires.values
