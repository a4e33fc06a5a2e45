use Rattle.std.proofs.Common.{◌≡◌, true, false, sym, ap, ◌∙◌}
use Rattle.gw_object.specs.declared.blocks.Block.{Block}
use Rattle.gw_step.specs.Blocks.{is_terminate}
use Rattle.gw_scan.specs.Origins.{origin}
use Rattle.gw_scan.proofs.visit.Visit.act.Goals as goal

-- a block that is no TERMINATE is none
other : {A : Type 0} (block : Block) → is_terminate block ≡ false → is_terminate block ≡ true → A
other block differs same = let never : false ≡ true = sym differs ∙ same in absurd (cc)

pub returns-in-GenerateWithin-clause-on : goal.returns-in-GenerateWithin-clause-on
returns-in-GenerateWithin-clause-on c = other (origin c.args.block.now) (ap (λ d. is_terminate (origin d)) c.in-GenerateWithin.is)

pub returns-in-AdvanceWithin-clause-on : goal.returns-in-AdvanceWithin-clause-on
returns-in-AdvanceWithin-clause-on c = other (origin c.args.block.now) (ap (λ d. is_terminate (origin d)) c.in-AdvanceWithin.is)

pub returns-in-AssignConstant-clause-on : goal.returns-in-AssignConstant-clause-on
returns-in-AssignConstant-clause-on c = other (origin c.args.block.now) (ap (λ d. is_terminate (origin d)) c.in-AssignConstant.is)

pub returns-in-SavevalueConstant-clause-on : goal.returns-in-SavevalueConstant-clause-on
returns-in-SavevalueConstant-clause-on c = other (origin c.args.block.now) (ap (λ d. is_terminate (origin d)) c.in-SavevalueConstant.is)

pub returns-in-PriorityConstant-clause-on : goal.returns-in-PriorityConstant-clause-on
returns-in-PriorityConstant-clause-on c = other (origin c.args.block.now) (ap (λ d. is_terminate (origin d)) c.in-PriorityConstant.is)

pub returns-in-Generate-clause-on : goal.returns-in-Generate-clause-on
returns-in-Generate-clause-on c = other (origin c.args.block.now) (ap (λ d. is_terminate (origin d)) c.in-Generate.is)

pub returns-in-Advance-clause-on : goal.returns-in-Advance-clause-on
returns-in-Advance-clause-on c = other (origin c.args.block.now) (ap (λ d. is_terminate (origin d)) c.in-Advance.is)

pub returns-in-Seize-clause-on : goal.returns-in-Seize-clause-on
returns-in-Seize-clause-on c = other (origin c.args.block.now) (ap (λ d. is_terminate (origin d)) c.in-Seize.is)

pub returns-in-Release-clause-on : goal.returns-in-Release-clause-on
returns-in-Release-clause-on c = other (origin c.args.block.now) (ap (λ d. is_terminate (origin d)) c.in-Release.is)

pub returns-in-Enter-clause-on : goal.returns-in-Enter-clause-on
returns-in-Enter-clause-on c = other (origin c.args.block.now) (ap (λ d. is_terminate (origin d)) c.in-Enter.is)

pub returns-in-Leave-clause-on : goal.returns-in-Leave-clause-on
returns-in-Leave-clause-on c = other (origin c.args.block.now) (ap (λ d. is_terminate (origin d)) c.in-Leave.is)

pub returns-in-Queue-clause-on : goal.returns-in-Queue-clause-on
returns-in-Queue-clause-on c = other (origin c.args.block.now) (ap (λ d. is_terminate (origin d)) c.in-Queue.is)

pub returns-in-Depart-clause-on : goal.returns-in-Depart-clause-on
returns-in-Depart-clause-on c = other (origin c.args.block.now) (ap (λ d. is_terminate (origin d)) c.in-Depart.is)

pub returns-in-Test-clause-on : goal.returns-in-Test-clause-on
returns-in-Test-clause-on c = other (origin c.args.block.now) (ap (λ d. is_terminate (origin d)) c.in-Test.is)

pub returns-in-Gate-clause-on : goal.returns-in-Gate-clause-on
returns-in-Gate-clause-on c = other (origin c.args.block.now) (ap (λ d. is_terminate (origin d)) c.in-Gate.is)

pub returns-in-Transfer-clause-on : goal.returns-in-Transfer-clause-on
returns-in-Transfer-clause-on c = other (origin c.args.block.now) (ap (λ d. is_terminate (origin d)) c.in-Transfer.is)

pub returns-in-TransferByFraction-clause-on : goal.returns-in-TransferByFraction-clause-on
returns-in-TransferByFraction-clause-on c = other (origin c.args.block.now) (ap (λ d. is_terminate (origin d)) c.in-TransferByFraction.is)

pub returns-in-TransferBoth-clause-on : goal.returns-in-TransferBoth-clause-on
returns-in-TransferBoth-clause-on c = other (origin c.args.block.now) (ap (λ d. is_terminate (origin d)) c.in-TransferBoth.is)

pub returns-in-TransferToSubroutine-clause-on : goal.returns-in-TransferToSubroutine-clause-on
returns-in-TransferToSubroutine-clause-on c = other (origin c.args.block.now) (ap (λ d. is_terminate (origin d)) c.in-TransferToSubroutine.is)

pub returns-in-TransferByParameter-clause-on : goal.returns-in-TransferByParameter-clause-on
returns-in-TransferByParameter-clause-on c = other (origin c.args.block.now) (ap (λ d. is_terminate (origin d)) c.in-TransferByParameter.is)

pub returns-in-Assign-clause-on : goal.returns-in-Assign-clause-on
returns-in-Assign-clause-on c = other (origin c.args.block.now) (ap (λ d. is_terminate (origin d)) c.in-Assign.is)

pub returns-in-Plus-clause-on : goal.returns-in-Plus-clause-on
returns-in-Plus-clause-on c = other (origin c.args.block.now) (ap (λ d. is_terminate (origin d)) c.in-Plus.is)

pub returns-in-Loop-clause-on : goal.returns-in-Loop-clause-on
returns-in-Loop-clause-on c = other (origin c.args.block.now) (ap (λ d. is_terminate (origin d)) c.in-Loop.is)

pub returns-in-Split-clause-on : goal.returns-in-Split-clause-on
returns-in-Split-clause-on c = other (origin c.args.block.now) (ap (λ d. is_terminate (origin d)) c.in-Split.is)

pub returns-in-Assemble-clause-on : goal.returns-in-Assemble-clause-on
returns-in-Assemble-clause-on c = other (origin c.args.block.now) (ap (λ d. is_terminate (origin d)) c.in-Assemble.is)

pub returns-in-Link-clause-on : goal.returns-in-Link-clause-on
returns-in-Link-clause-on c = other (origin c.args.block.now) (ap (λ d. is_terminate (origin d)) c.in-Link.is)

pub returns-in-Unlink-clause-on : goal.returns-in-Unlink-clause-on
returns-in-Unlink-clause-on c = other (origin c.args.block.now) (ap (λ d. is_terminate (origin d)) c.in-Unlink.is)

pub returns-in-Priority-clause-on : goal.returns-in-Priority-clause-on
returns-in-Priority-clause-on c = other (origin c.args.block.now) (ap (λ d. is_terminate (origin d)) c.in-Priority.is)

pub returns-in-Buffer-clause-on : goal.returns-in-Buffer-clause-on
returns-in-Buffer-clause-on c = other (origin c.args.block.now) (ap (λ d. is_terminate (origin d)) c.in-Buffer.is)

pub returns-in-Logic-clause-on : goal.returns-in-Logic-clause-on
returns-in-Logic-clause-on c = other (origin c.args.block.now) (ap (λ d. is_terminate (origin d)) c.in-Logic.is)

pub returns-in-Savevalue-clause-on : goal.returns-in-Savevalue-clause-on
returns-in-Savevalue-clause-on c = other (origin c.args.block.now) (ap (λ d. is_terminate (origin d)) c.in-Savevalue.is)

pub returns-in-Tabulate-clause-on : goal.returns-in-Tabulate-clause-on
returns-in-Tabulate-clause-on c = other (origin c.args.block.now) (ap (λ d. is_terminate (origin d)) c.in-Tabulate.is)
