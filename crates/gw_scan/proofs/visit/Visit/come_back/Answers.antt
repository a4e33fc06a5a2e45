use Rattle.std.proofs.Common.{◌≡◌, rules, Some, subst, to_z, of_z, w64}
use Rattle.gw_transactions.specs.Transactions.{parameter_at}
use Rattle.gw_machine.specs.View.{state_of}
use Rattle.gw_step.specs.Asks.{IsReturn}
use Rattle.gw_scan.proofs.Leading.{is_number}
use Rattle.gw_scan.proofs.visit.Visit.come_back.Goals as goal

pub block_after-requires : goal.block_after-requires
block_after-requires c =
    let is : parameter_at c.args.self.now.tx.number c.args.parameter (state_of c.args.machine.now).transactions
    ≡ Some (to_z w64 (of_z w64 c.parameter-value.result)) = search rules in
    is_number c.args.self.now.verified.now.blocks _ c.requires.visit.steady.fit.few (subst (IsReturn c.args.self.now.verified.now.blocks) is c.requires.asks)
