use Rattle.gpssw.proofs.Batches.{memory_responds}
use Rattle.gpssw.proofs.program.run_batch.Goals as goal

pub returns-in-Err-Memory-clause-bytes : goal.returns-in-Err-Memory-clause-bytes
returns-in-Err-Memory-clause-bytes g c =
    let kept = rw c.in-Err-Memory.field-0-is at c.in-Err-Memory.ensures.left in
    memory_responds _ c.deliver.result c.args.writer.now.held c.answer_batch.new.writer.held c.deliver.new.writer.held kept c.deliver.ensures.bytes
