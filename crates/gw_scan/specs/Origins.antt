-- Decoded blocks: of which blocks they are made.
use Rattle.std.specs.Prelude.{pos}
use Rattle.gw_object.specs.declared.blocks.Block.{Block}
use Rattle.gw_object.specs.declared.blocks.Block.TheVariants as blocks
use Rattle.gw_object.specs.declared.blocks.Generate.{Generate}
use Rattle.gw_object.specs.declared.blocks.Assign.{Assign}
use Rattle.gw_object.specs.declared.blocks.Save.{Save}
use Rattle.gw_object.specs.declared.blocks.Priority.{Priority}
use Rattle.gw_object.specs.declared.blocks.Operand.TheVariants.{Constant}
use Rattle.gw_machine.specs.Spans.{spread_of}
use Rattle.gw_scan.specs.declared.decoding.Arrivals.{Arrivals}
use Rattle.gw_scan.specs.declared.decoding.AssignConstant.{AssignConstant}
use Rattle.gw_scan.specs.declared.decoding.SaveConstant.{SaveConstant}
use Rattle.gw_scan.specs.declared.decoding.PriorityConstant.{PriorityConstant}
use Rattle.gw_scan.specs.declared.decoding.Decoded.{Decoded}
use Rattle.gw_scan.specs.declared.decoding.Decoded.TheVariants as decoded

-- the operands of a GENERATE that gives these arrivals
abbrev pub generate_of : Arrivals → Generate
generate_of a = record { interval = spread_of a.interval; first = a.first; limit = a.limit; priority = a.priority }

-- the operands of an ASSIGN, a SAVEVALUE and a PRIORITY with these constants
abbrev pub assign_of : AssignConstant → Assign
assign_of a = record { parameter = a.parameter; mode = a.mode; value = Constant a.value }

abbrev pub save_of : SaveConstant → Save
save_of a = record { savevalue = a.savevalue; mode = a.mode; value = Constant a.value }

abbrev pub priority_of : PriorityConstant → Priority
priority_of c = record { value = Constant c.value; behind = c.behind }

-- the block that was decoded: acting by the decoded one is acting by it
abbrev pub origin : Decoded → Block
origin (decoded.GenerateWithin a) = blocks.Generate (generate_of a)
origin (decoded.AdvanceWithin span) = blocks.Advance (spread_of span)
origin (decoded.TerminateBy by) = blocks.Terminate (Constant (pos by))
origin (decoded.AssignConstant a) = blocks.Assign (assign_of a)
origin (decoded.SavevalueConstant a) = blocks.Savevalue (save_of a)
origin (decoded.PriorityConstant c) = blocks.Priority (priority_of c)
origin (decoded.Generate it) = blocks.Generate it
origin (decoded.Terminate it) = blocks.Terminate it
origin (decoded.Advance it) = blocks.Advance it
origin (decoded.Seize it) = blocks.Seize it
origin (decoded.Release it) = blocks.Release it
origin (decoded.Enter it) = blocks.Enter it
origin (decoded.Leave it) = blocks.Leave it
origin (decoded.Queue it) = blocks.Queue it
origin (decoded.Depart it) = blocks.Depart it
origin (decoded.Assign it) = blocks.Assign it
origin (decoded.Test it) = blocks.Test it
origin (decoded.Gate it) = blocks.Gate it
origin (decoded.Transfer it) = blocks.Transfer it
origin (decoded.TransferByFraction it) = blocks.TransferByFraction it
origin (decoded.TransferBoth it) = blocks.TransferBoth it
origin (decoded.TransferToSubroutine it) = blocks.TransferToSubroutine it
origin (decoded.TransferByParameter it) = blocks.TransferByParameter it
origin (decoded.Loop it) = blocks.Loop it
origin (decoded.Split it) = blocks.Split it
origin (decoded.Assemble it) = blocks.Assemble it
origin (decoded.Link it) = blocks.Link it
origin (decoded.Unlink it) = blocks.Unlink it
origin (decoded.Logic it) = blocks.Logic it
origin (decoded.Savevalue it) = blocks.Savevalue it
origin (decoded.Mark it) = blocks.Mark it
origin (decoded.Priority it) = blocks.Priority it
origin decoded.Buffer = blocks.Buffer
origin (decoded.Plus it) = blocks.Plus it
origin (decoded.Tabulate it) = blocks.Tabulate it
