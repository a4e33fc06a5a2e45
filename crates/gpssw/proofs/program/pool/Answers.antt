use Rattle.std.proofs.Common.{◌≡◌, Some, None, Err, sym}
use Rattle.gw_batch.specs.Codes.{words_fault}
use Rattle.gw_console.proofs.Outputs.{delivers, answer_statuses}
use Rattle.gpssw.proofs.Entries.{lost_none}
use Rattle.gpssw.proofs.Batches.{batch_responds, batch_lost, words_lost}
use Rattle.gpssw.proofs.Found.{words_told, on_ok}
use Rattle.gpssw.proofs.Outputs.{pool_ends, responds_delivers}
use Rattle.gpssw.proofs.Calls.{of_batch, of_told, none_read}
use Rattle.gpssw.proofs.program.pool.Goals as goal

pub returns-in-Some-clause-written : goal.returns-in-Some-clause-written
returns-in-Some-clause-written g c =
    let out : words_fault c.args.workers c.args.slice ≡ Some c.in-Some.refusal.0 = sym (rw c.in-Some.is at c.refusal_of_words.ensures) in
    let answer = words_told c.args.workers c.args.slice c.args.reader.now.left c.in-Some.refusal.0 out c.answer_refusal.result
    c.or_no_memory.result c.answer_refusal.ensures c.or_no_memory.ensures in
    delivers _ (pool_ends c.args.workers c.args.slice) _ _ _ _ c.or_no_memory.result answer c.deliver.ensures.bytes

pub returns-in-Some-clause-calls : goal.returns-in-Some-clause-calls
returns-in-Some-clause-calls g c =
    let out : words_fault c.args.workers c.args.slice ≡ Some c.in-Some.refusal.0 = sym (rw c.in-Some.is at c.refusal_of_words.ensures) in
    let answer = words_told c.args.workers c.args.slice c.args.reader.now.left c.in-Some.refusal.0 out c.answer_refusal.result
    c.or_no_memory.result c.answer_refusal.ensures c.or_no_memory.ensures in
    of_batch _ _ _ _ _ c.args.workers c.args.slice c.requires.reader c.or_no_memory.result
    (answer_statuses _ (pool_ends c.args.workers c.args.slice) _ c.or_no_memory.result answer)
    (none_read _ c.answer_refusal.result c.or_no_memory.result c.or_no_memory.ensures)
    (on_ok c.or_no_memory.result (words_lost c.args.workers c.args.slice _ c.in-Some.refusal.0 out))
    (lost_none _ _) c.deliver.ensures.bytes c.deliver.ensures.told c.deliver.ensures.flushed

pub returns-in-Ok-clause-written : goal.returns-in-Ok-clause-written
returns-in-Ok-clause-written g c =
    let in_range : words_fault c.args.workers c.args.slice ≡ None = sym (rw c.in_default.is at c.refusal_of_words.ensures) in
    responds_delivers _ (pool_ends c.args.workers c.args.slice) _ _ _ _
    (batch_responds c.args.workers c.args.slice _ _ _ _ _ c.in-Ok.entries.items in_range c.in-Ok.ensures.batch c.run_batch.ensures.bytes)

pub returns-in-Ok-clause-calls : goal.returns-in-Ok-clause-calls
returns-in-Ok-clause-calls g c =
    let in_range : words_fault c.args.workers c.args.slice ≡ None = sym (rw c.in_default.is at c.refusal_of_words.ensures) in
    of_told _ _ _ _ _ c.args.workers c.args.slice c.requires.reader c.in-Ok.ensures.told
    (batch_lost c.args.workers c.args.slice _ _ c.in-Ok.entries.items in_range c.in-Ok.ensures.batch) c.in-Ok.ensures.limited
    c.run_batch.ensures.told c.run_batch.ensures.flushed

pub returns-in-Err-clause-written : goal.returns-in-Err-clause-written
returns-in-Err-clause-written g c = delivers _ (pool_ends c.args.workers c.args.slice) _ _ _ _ (Err c.in-Err.fault) tt c.deliver-in-Err.ensures.bytes

pub returns-in-Err-clause-calls : goal.returns-in-Err-clause-calls
returns-in-Err-clause-calls g c =
    of_batch _ _ _ _ _ c.args.workers c.args.slice c.requires.reader (Err c.in-Err.fault) tt c.in-Err.ensures.told tt c.in-Err.ensures.limited
    c.deliver-in-Err.ensures.bytes c.deliver-in-Err.ensures.told c.deliver-in-Err.ensures.flushed
