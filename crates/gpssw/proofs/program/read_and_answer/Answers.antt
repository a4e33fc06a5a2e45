use Rattle.gw_console.proofs.Bytes.{front_lost}
use Rattle.gpssw.proofs.Found.{front_answered, on_ok}
use Rattle.gpssw.proofs.program.read_and_answer.Goals as goal

pub returns-clause-answer : goal.returns-clause-answer
returns-clause-answer g c =
    front_answered c.args.request _ c.in_ok-input.input.items c.in_ok-input.ensures.front c.answer_to.result c.or_no_memory.result
    (rw c.deref.ensures.value at c.answer_to.ensures) c.or_no_memory.ensures

pub returns-clause-whole : goal.returns-clause-whole
returns-clause-whole g c =
    on_ok c.or_no_memory.result (front_lost 1048577 _ _ c.in_ok-input.input.items c.in_ok-input.ensures.front c.in_ok-input.ensures.taken)
