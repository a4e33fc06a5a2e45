use Rattle.std.proofs.Common.{[], ◌∷◌}
use Rattle.gw_scan.proofs.Meeting.{first_may, second_may}
use Rattle.gw_scan.proofs.visit.Visit.fails_test.Goals as goal

pub value-requires-clause-operand : goal.value-requires-clause-operand
value-requires-clause-operand c = first_may c.args.self.now.verified.now _ c.args.test.left (c.args.test.right ∷ []) c.requires.meets.values

pub value-requires-2-clause-operand : goal.value-requires-2-clause-operand
value-requires-2-clause-operand c = second_may c.args.self.now.verified.now _ c.args.test.left c.args.test.right [] c.requires.meets.values
