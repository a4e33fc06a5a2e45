use Rattle.std.proofs.Common.{rules, ◌≡◌, Some, subst}
use Rattle.std.specs.Prelude.{IfSome}
use Rattle.gw_rules.specs.Sources.{operand_at}
use Rattle.gw_step.specs.Operands.{MayEvaluate}
use Rattle.gw_scan.specs.Visiting.{environment_in}
use Rattle.gw_scan.proofs.Meeting.{argument_may}
use Rattle.gw_scan.proofs.visit.Visit.tabulate.Goals as goal

pub value-requires-clause-operand : goal.value-requires-clause-operand
value-requires-clause-operand c =
    let p = c.args.self.now.verified.now in
    let env = environment_in c.args.self.now c.args.machine.now in
    let is : operand_at p.entities c.args.table ≡ Some c.unwrap-argument.result = search rules in
    subst (λ o. IfSome o (MayEvaluate p env)) is (argument_may p env (operand_at p.entities c.args.table) c.requires.values)
