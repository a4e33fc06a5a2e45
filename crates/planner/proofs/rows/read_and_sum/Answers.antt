use Rattle.planner.proofs.Summing.{no_study, summed_up, refused_up}
use Rattle.planner.proofs.rows.read_and_sum.Goals as goal

pub returns-in-Ok-clause-answer : goal.returns-in-Ok-clause-answer
returns-in-Ok-clause-answer g c =
    summed_up c.args.summing c.read_pieces.new.pieces _ c.summary.result c.or_no_memory.result c.in-Ok.ensures.read
    c.summary.ensures.summary c.summary.ensures.study c.or_no_memory.ensures

pub returns-in-Err-Row-Fault-clause-answer : goal.returns-in-Err-Row-Fault-clause-answer
returns-in-Err-Row-Fault-clause-answer g c =
    let known = c.args.reader.now.left in
    let fault_is = rw c.in-Err-Row-Fault.field-0-is at c.in-Err-Row-Fault.field-0-0-is in
    let none = no_study known c.in-Err-Row-Fault.field-0 c.in-Err-Row-Fault.field-0-0 c.in-Err-Row-Fault.line c.in-Err-Row-Fault.fault
    c.in-Err-Row-Fault.field-0-is fault_is c.in-Err-Row-Fault.ensures.study in
    refused_up c.args.summing known c.refused.result c.or_no_memory-in-Err-Row-Fault.result c.refused.ensures none
    c.or_no_memory-in-Err-Row-Fault.ensures
